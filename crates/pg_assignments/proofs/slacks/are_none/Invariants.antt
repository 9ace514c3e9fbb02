use Rattle.pg_assignments.proofs.Common.{◌≡◌, true, AreNone}
use Rattle.pg_assignments.proofs.slacks.are_none.Given as goal

abbrev pub invariant-loop-q : goal.invariant-loop-q
invariant-loop-q l = l.none ≡ true → AreNone l.row l.q
