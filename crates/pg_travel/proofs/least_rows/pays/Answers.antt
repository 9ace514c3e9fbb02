use Rattle.pg_travel.proofs.Common.{get_or, refl, total}
use Rattle.pg_travel.proofs.LeastRows.{row_pays}
use Rattle.pg_travel.proofs.least_rows.pays.Goals as goal

pub returns : goal.returns
returns c = λ p same. row_pays p c.args.board.now c.args.rows.now c.args.color c.args.way c.least.result c.args.plies c.cost_by.result (total (λ i. get_or c.least.result i 0) 16) same c.least.ensures c.requires.few c.requires.limit refl c.cost_by.ensures
