use Rattle.pg_tolls.proofs.Common.{◌≡◌, ◌*◌, ◌≤◌, get_or, total}
use Rattle.pg_tolls.proofs.values.sum.Given as goal

abbrev pub invariant-loop-i : goal.invariant-loop-i
invariant-loop-i l = record { is : l.sum ≡ total (λ i. get_or l.row i 0) l.i; low : l.sum ≤ 65535 * l.i }
