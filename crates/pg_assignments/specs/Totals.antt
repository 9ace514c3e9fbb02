-- The least totals within a budget.
use Rattle.std.specs.Prelude.{ℕ, ◌<◌, ◌≤◌, Some}
use Rattle.pg_assignments.specs.declared.costs.Costs.{Costs}
use Rattle.pg_assignments.specs.declared.totals.LeastTotals.{LeastTotals}
use Rattle.pg_assignments.specs.Assignments.{cost, Below, IsTotal, IsLeastTotal, AreLeastWith}

-- the sum of each assignment is above most
abbrev pub IsBeyond : Costs → ℕ → Type 0
IsBeyond k most = (x : ℕ) → IsTotal (cost k) (Below k.size) k.size x → most < x

-- the least total, which is at most most, and those of all pairs
pub record AreTotals (k : Costs) (most : ℕ) (totals : LeastTotals) : Type 0 where
  pub least : IsLeastTotal k (Some totals.least)
  pub within : totals.least ≤ most
  pub pairs : AreLeastWith k totals.pairs k.size
