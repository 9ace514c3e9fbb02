use Rattle.pg_tolls.proofs.Common.{known, stated}
use Rattle.pg_tolls.proofs.FillingLemmas.{IsFilled}
use Rattle.pg_tolls.proofs.filling.fill.Given as goal

abbrev pub invariant-loop-marks : goal.invariant-loop-marks
invariant-loop-marks l = IsFilled (stated l.tariff) (known l.ground.facts) l.ground.color l.goals l._marks l.table.items l.layer
