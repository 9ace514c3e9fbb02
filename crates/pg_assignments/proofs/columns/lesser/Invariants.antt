use Rattle.pg_assignments.proofs.Common.{◌≡◌, length, AreAtMost}
use Rattle.pg_assignments.proofs.columns.lesser.Given as goal

abbrev pub invariant-loop-j : goal.invariant-loop-j
invariant-loop-j l = record { long : length l.lesser ≡ 16; is : AreAtMost l.lesser l.first l.second l.j }
