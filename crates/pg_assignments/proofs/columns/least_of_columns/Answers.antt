use Rattle.pg_assignments.proofs.Common.{◌+◌, refl}
use Rattle.pg_assignments.proofs.TestLemmas.{below_next}
use Rattle.pg_assignments.proofs.columns.least_of_columns.Goals as goal

pub loop-i-preserved : goal.loop-i-preserved
loop-i-preserved c = below_next c.args.costs.now c.loop-i.least c.lesser-next.result c.loop-i.i (c.loop-i.i + 1) refl c.lesser-next.ensures c.loop-i.invariant
