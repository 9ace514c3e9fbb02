use Rattle.pg_journeys.proofs.Common.{ℕ, ◌<◌, EndWithin}
use Rattle.pg_journeys.proofs.plans.count_by_asking.Given as goal

abbrev pub invariant-loop-n : goal.invariant-loop-n
invariant-loop-n l = (m : ℕ) → m < l.n → EndWithin l.side l.man.is_quiet l.e m l.man.kind l.man.square → ⊥
