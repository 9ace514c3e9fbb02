use Rattle.pg_travel.proofs.LeastRows.{free_is}
use Rattle.pg_travel.proofs.least_rows.free_row.Goals as goal

pub returns : goal.returns
returns c = free_is c.args.rows.now c.args.board.now c.args.color c.empty.result c.least_off.result c.empty.ensures.none c.least_off.ensures
