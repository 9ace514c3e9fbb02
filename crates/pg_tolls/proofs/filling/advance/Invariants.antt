use Rattle.pg_tolls.proofs.Common.{known, KeepsPawns}
use Rattle.pg_tolls.proofs.filling.advance.Given as goal

abbrev pub invariant-loop-at : goal.invariant-loop-at
invariant-loop-at l = KeepsPawns (known l.ground.facts) l.ground.color l.weight l.taken l.initial.pawns l.pawns
