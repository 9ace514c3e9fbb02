use Rattle.pg_assignments.proofs.Common.{cost, AreBelow}
use Rattle.pg_assignments.proofs.columns.least_of_columns.Given as goal

abbrev pub invariant-loop-i : goal.invariant-loop-i
invariant-loop-i l = AreBelow (cost l.costs) l.least l.i
