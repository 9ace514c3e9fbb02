use Rattle.pg_assignments.proofs.Common.{◌≡◌, length, AreLeastWith}
use Rattle.pg_assignments.proofs.with_all.all_by.Given as goal

abbrev pub invariant-loop-i : goal.invariant-loop-i
invariant-loop-i l = record { long : length l.out ≡ 16; is : AreLeastWith l.costs l.out l.i }
