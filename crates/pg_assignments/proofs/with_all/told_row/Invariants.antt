use Rattle.pg_assignments.proofs.Common.{◌≡◌, length, AreTold}
use Rattle.pg_assignments.proofs.with_all.told_row.Given as goal

abbrev pub invariant-loop-q : goal.invariant-loop-q
invariant-loop-q l = record { long : length l.out ≡ 16; is : AreTold l.x l.slack l.lengths l.out l.q }
