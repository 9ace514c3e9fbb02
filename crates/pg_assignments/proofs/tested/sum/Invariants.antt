use Rattle.pg_assignments.proofs.Common.{◌≡◌, ◌*◌, ◌≤◌, total, nth}
use Rattle.pg_assignments.proofs.tested.sum.Given as goal

abbrev pub invariant-loop-i : goal.invariant-loop-i
invariant-loop-i l = record { is : l.sum ≡ total (nth l.row) l.i; low : l.sum ≤ 65535 * l.i }
