use Rattle.pg_assignments.proofs.Common.{◌≡◌, length}
use Rattle.pg_assignments.proofs.WayLemmas.{AreBegun}
use Rattle.pg_assignments.proofs.ways.begin.Given as goal

abbrev pub invariant-loop-q : goal.invariant-loop-q
invariant-loop-q l = record { long : length l.keys ≡ 16; is : AreBegun l.slacks l.owner l.q l.keys }
