use Rattle.pg_cooks.proofs.PartingLemmas.{AreAlike}
use Rattle.pg_cooks.proofs.parting.part.Given as goal

-- the moves so far are the same
abbrev pub invariant-loop-i : goal.invariant-loop-i
invariant-loop-i l = AreAlike l.a l.b l.i
