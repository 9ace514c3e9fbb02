use Rattle.pg_assignments.proofs.Common.{◌≡◌, true, AreWithin}
use Rattle.pg_assignments.proofs.slacks.low.Given as goal

abbrev pub invariant-loop-q : goal.invariant-loop-q
invariant-loop-q l = l.low ≡ true → AreWithin l.row l.q 32768
