use Rattle.pg_travel.proofs.LeastRows.{away_is}
use Rattle.pg_travel.proofs.least_rows.away.Goals as goal

pub returns : goal.returns
returns c = away_is c.args.rows.now c.args.board.now c.args.color c.homes.result c.least_off.result c.homes.ensures c.least_off.ensures
