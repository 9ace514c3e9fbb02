use Rattle.pg_assignments.proofs.Common.{◌≡◌, length, RowLeast}
use Rattle.pg_assignments.proofs.with_all.plain_row.Given as goal

abbrev pub invariant-loop-j : goal.invariant-loop-j
invariant-loop-j l = record { long : length l.out ≡ 16; is : RowLeast l.costs l.row l.out l.j }
