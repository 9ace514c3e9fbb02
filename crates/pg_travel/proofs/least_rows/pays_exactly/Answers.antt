use Rattle.pg_travel.proofs.Common.{sym}
use Rattle.pg_travel.proofs.least_rows.pays_exactly.Goals as goal

pub returns : goal.returns
returns c = c.pays.ensures c.args.position.now (sym c.board-board.ensures.value)
