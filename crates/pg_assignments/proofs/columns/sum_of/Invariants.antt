use Rattle.pg_assignments.proofs.Common.{◌≡◌, ◌*◌, ◌≤◌, total, nth}
use Rattle.pg_assignments.proofs.columns.sum_of.Given as goal

abbrev pub invariant-loop-j : goal.invariant-loop-j
invariant-loop-j l = record { is : l.sum ≡ total (nth l.row) l.j; low : l.sum ≤ 255 * l.j }
