use Rattle.pg_tolls.proofs.Common.{◌<◌, ℕ, known, stated, IsLayer}
use Rattle.pg_tolls.proofs.closed.is_closed.Given as goal

abbrev pub invariant-loop-marks : goal.invariant-loop-marks
invariant-loop-marks l = (j : ℕ) → j < l.marks → IsLayer (stated l.tariff) (known l.ground.facts) l.ground.color l.goals l.table j
