use Rattle.pg_journeys.proofs.Common.{ℕ, ◌<◌, InRing}
use Rattle.pg_journeys.proofs.plans.first_ring.Given as goal

abbrev pub invariant-loop-n : goal.invariant-loop-n
invariant-loop-n l = (m : ℕ) → m < l.n → InRing l.rings l.man m → ⊥
