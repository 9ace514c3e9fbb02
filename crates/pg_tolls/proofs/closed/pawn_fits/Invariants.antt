use Rattle.pg_tolls.proofs.Common.{known, ArePawnSteps}
use Rattle.pg_tolls.proofs.closed.pawn_fits.Given as goal

abbrev pub invariant-loop-at : goal.invariant-loop-at
invariant-loop-at l = ArePawnSteps (known l.ground.facts) l.ground.color l.weight l.rows l.marked l.at
