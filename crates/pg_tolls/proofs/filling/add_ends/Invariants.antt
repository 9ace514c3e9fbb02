use Rattle.pg_tolls.proofs.Common.{known, stated, KeepsEnds}
use Rattle.pg_tolls.proofs.filling.add_ends.Given as goal

abbrev pub invariant-loop-e : goal.invariant-loop-e
invariant-loop-e l = KeepsEnds (stated l.tariff) (known l.ground.facts) l.ground.color l.goals l.kind l.initial.rows l.rows
