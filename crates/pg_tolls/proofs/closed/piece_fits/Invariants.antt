use Rattle.pg_tolls.proofs.Common.{known, ArePieceSteps}
use Rattle.pg_tolls.proofs.closed.piece_fits.Given as goal

abbrev pub invariant-loop-at : goal.invariant-loop-at
invariant-loop-at l = ArePieceSteps (known l.ground.facts) l.ground.color l.kind l.weight l.rows l.coming l.at
