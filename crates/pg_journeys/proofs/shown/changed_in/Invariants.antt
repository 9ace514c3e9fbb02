use Rattle.pg_journeys.proofs.Common.{◌≡◌, ℕ, ◌<◌, IsSetOf, square_at, MayChange}
use Rattle.pg_journeys.proofs.shown.changed_in.Given as goal

abbrev pub invariant-loop-i : goal.invariant-loop-i
invariant-loop-i l = IsSetOf l.changed (λ s. (i : ℕ) × (i < l.i) × (square_at l.fn.own i ≡ s) × MayChange l.fn.color l.fn.own l.fn.way l.fn.moves l.fn.quiet i)
