use Rattle.pg_assignments.proofs.Common.{◌≡◌, ◌↔◌, ℕ, ◌<◌, length, IsFree}
use Rattle.pg_assignments.proofs.exact.first.Given as goal

abbrev pub invariant-loop-j : goal.invariant-loop-j
invariant-loop-j l = record { long : length l.free ≡ 16; is : (q : ℕ) → IsFree l.free q ↔ (q < l.j) }
