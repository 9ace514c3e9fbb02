use Rattle.pg_journeys.proofs.Common.{◌≡◌, ◌<◌, ℕ, false, Kind, number_of_kind, is_due}
use Rattle.pg_journeys.proofs.fronts.Front.take_due.Given as goal

abbrev pub invariant-loop-k : goal.invariant-loop-k
invariant-loop-k l = record {
  same : l.self ≡ l.fn.self;
  none : (j : Kind) (t : ℕ) → number_of_kind j < l.k → t < 64 → is_due l.fn.self j t ≡ false;
}
