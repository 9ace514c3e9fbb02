use Rattle.pg_tolls.proofs.Common.{◌≡◌, ◌<◌, ◌≤◌, ℕ, length, get_or}
use Rattle.pg_tolls.proofs.bills.split.Given as goal

abbrev pub invariant-loop-e : goal.invariant-loop-e
invariant-loop-e l = record {
  long : length l.row ≡ 16;
  before : (j : ℕ) → j < l.e → get_or l.row j 0 ≡ l.before;
  behind : (j : ℕ) → l.e ≤ j → j < 16 → get_or l.row j 0 ≡ l.behind;
}
