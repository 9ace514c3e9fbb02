use Rattle.pg_tolls.proofs.Common.{AreGoals}
use Rattle.pg_tolls.proofs.closed.goals_fit.Given as goal

abbrev pub invariant-loop-e : goal.invariant-loop-e
invariant-loop-e l = AreGoals l.goals l.table l.marks l.e
