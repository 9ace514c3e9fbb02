use Rattle.pg_journeys.proofs.Common.{◌≡◌, ◌<◌, ◌≤◌, ℕ, length, get_or}
use Rattle.pg_journeys.proofs.plans.with_falls.Given as goal

abbrev pub invariant-loop-k : goal.invariant-loop-k
invariant-loop-k l = record {
  long : length l.all ≡ 16;
  kept : (j : ℕ) → j < l.side.goals.count → get_or l.all j 0 ≡ get_or l.initial.all j 0;
  falls : (j : ℕ) → l.side.goals.count ≤ j → j < l.k → get_or l.all j 0 ≡ l.fall;
}
