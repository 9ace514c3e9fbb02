use Rattle.pg_tolls.proofs.Common.{arith}
use Rattle.pg_tolls.proofs.LaneLemmas.{picked_below}
use Rattle.pg_tolls.proofs.rows.with_none.Goals as goal

pub returns : goal.returns
returns c = λ e l. picked_below c.args.row.now c.args.costs.now 65535 255 e l (omega arith) (omega arith)
