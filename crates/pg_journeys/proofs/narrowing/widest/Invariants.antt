use Rattle.pg_journeys.proofs.Common.{ℕ, ◌<◌, ◌≤◌, get_or}
use Rattle.pg_journeys.proofs.narrowing.widest.Given as goal

abbrev pub invariant-loop-e : goal.invariant-loop-e
invariant-loop-e l = record {
  above : (e : ℕ) → e < l.e → get_or l.rooms e 0 < 255 → get_or l.rooms e 0 ≤ l.most;
  low : (n : ℕ) → ((e : ℕ) → e < 17 → get_or l.rooms e 0 < 255 → get_or l.rooms e 0 ≤ n) → l.most ≤ n;
}
