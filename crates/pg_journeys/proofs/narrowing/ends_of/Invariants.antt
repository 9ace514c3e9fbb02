use Rattle.pg_journeys.proofs.Common.{◌≡◌, ◌↔◌, ◌<◌, ℕ, true, get_or, has, ChangesBy}
use Rattle.pg_journeys.proofs.narrowing.ends_of.Given as goal

abbrev pub invariant-loop-e : goal.invariant-loop-e
invariant-loop-e l = (e : ℕ) → (has l.ends e ≡ true) ↔ ((e < l.e) × ((get_or l.rooms e 0 < 255) × ChangesBy l.side l.man e (get_or l.rooms e 0)))
