use Rattle.pg_tolls.proofs.Common.{known, KeepsSteps}
use Rattle.pg_tolls.proofs.filling.spread.Given as goal

abbrev pub invariant-loop : goal.invariant-loop
invariant-loop l = KeepsSteps (known l.ground.facts) l.ground.color l.kind l.weight l.initial.rows l.rows
