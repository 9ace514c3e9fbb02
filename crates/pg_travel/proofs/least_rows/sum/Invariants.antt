use Rattle.pg_travel.proofs.Common.{◌≡◌, ◌*◌, ◌≤◌, get_or, total}
use Rattle.pg_travel.proofs.least_rows.sum.Given as goal

abbrev pub invariant-loop-i : goal.invariant-loop-i
invariant-loop-i l = record { is : l.sum ≡ total (λ i. get_or l.row i 0) l.i; low : l.sum ≤ 255 * l.i }
