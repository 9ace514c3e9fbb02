use Rattle.pg_tolls.proofs.Common.{arith}
use Rattle.pg_tolls.proofs.LaneLemmas.{least_lanes}
use Rattle.pg_tolls.proofs.rows.lesser.Goals as goal

pub returns : goal.returns
returns c = λ e l. least_lanes c.args.first.now c.args.second.now e l (omega arith) (omega arith)
