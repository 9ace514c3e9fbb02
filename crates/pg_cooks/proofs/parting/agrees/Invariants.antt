use Rattle.pg_cooks.proofs.PartingLemmas.{IsOpen}
use Rattle.pg_cooks.proofs.parting.agrees.Given as goal

abbrev pub invariant-loop-ply : goal.invariant-loop-ply
invariant-loop-ply l = IsOpen l.game l.a l.b l.ply
