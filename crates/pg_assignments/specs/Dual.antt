-- Prices of rows and columns: no row's price is above a column's and the cost of the pair.
use Rattle.std.specs.Prelude.{◌≡◌, ℕ, ◌+◌, ◌<◌, ◌≤◌, List}
use Rattle.pg_assignments.specs.declared.costs.Costs.{Costs}
use Rattle.pg_assignments.specs.Assignments.{cost, Below, IsAssignment, sum_of, nth}

-- a row's price is at most a column's and the cost of the pair, for the rows below k and the columns below m
abbrev pub Fits : (ℕ → ℕ → ℕ) → (ℕ → ℕ) → (ℕ → ℕ) → ℕ → ℕ → Type 0
Fits c u v k m = (i j : ℕ) → i < k → j < m → c i j < 255 → u i ≤ v j + c i j

-- the same of one row, by its list of costs
abbrev pub RowFits : List ℕ → ℕ → List ℕ → ℕ → Type 0
RowFits costs price columns m = (j : ℕ) → j < m → nth costs j < 255 → price ≤ nth columns j + nth costs j

-- these columns are an assignment, and x is its sum
abbrev pub IsValue : Costs → List ℕ → ℕ → Type 0
IsValue k to x = IsAssignment (cost k) (Below k.size) k.size (nth to) × (x ≡ sum_of (cost k) (nth to) k.size)

-- the first m numbers are at most those of both others
abbrev pub AreAtMost : List ℕ → List ℕ → List ℕ → ℕ → Type 0
AreAtMost xs ys zs m = (j : ℕ) → j < m → (nth xs j ≤ nth ys j) × (nth xs j ≤ nth zs j)

-- sixteen numbers up to 255, at most the costs of the first n rows, column by column
pub record AreBelow (c : ℕ → ℕ → ℕ) (least : List ℕ) (n : ℕ) : Type 0 where
  pub low : (j : ℕ) → j < 16 → nth least j ≤ 255
  pub below : (i j : ℕ) → i < n → j < 16 → nth least j ≤ c i j
