-- Assignments: each row gets a column of its own, at a cost that exists. What the least total is.
use Rattle.std.specs.Prelude.{◌≡◌, ℕ, ◌<◌, ◌≤◌, Option, Some, None, List, [], get_or, cond, nat_eq}
use Rattle.pg_board.specs.Tally.{total}
use Rattle.pg_assignments.specs.declared.costs.Costs.{Costs}

-- the cost of row i at column j; 255 stands for none
unfoldable pub cost : Costs → ℕ → ℕ → ℕ
cost k i j = get_or (get_or k.rows i []) j 0

-- the columns below n
abbrev pub Below : ℕ → ℕ → Type 0
Below n j = j < n

-- each of the rows below k goes to a column of its own, one of those in P, at a cost that exists
pub record IsAssignment (c : ℕ → ℕ → ℕ) (P : ℕ → Type 0) (k : ℕ) (to : ℕ → ℕ) : Type 0 where
  pub inside : (i : ℕ) → i < k → P (to i)
  pub exists : (i : ℕ) → i < k → c i (to i) < 255
  pub different : (i j : ℕ) → i < k → j < k → to i ≡ to j → i ≡ j

-- the sum of the costs of the rows below k, each at its column
abbrev pub sum_of : (ℕ → ℕ → ℕ) → (ℕ → ℕ) → ℕ → ℕ
sum_of c to k = total (λ i. c i (to i)) k

-- x is the sum of some assignment of the rows below k to columns in P
abbrev pub IsTotal : (ℕ → ℕ → ℕ) → (ℕ → Type 0) → ℕ → ℕ → Type 0
IsTotal c P k x = (to : ℕ → ℕ) × IsAssignment c P k to × (x ≡ sum_of c to k)

-- the least number of which T holds, or none where it holds of no number
unfoldable pub IsLeast : (ℕ → Type 0) → Option ℕ → Type 0
IsLeast T None = (x : ℕ) → T x → ⊥
IsLeast T (Some x) = T x × ((y : ℕ) → T y → x ≤ y)

-- the least total of an assignment: of all rows, to as many columns
abbrev pub IsLeastTotal : Costs → Option ℕ → Type 0
IsLeastTotal k o = IsLeast (IsTotal (cost k) (Below k.size) k.size) o

-- x is the sum of some assignment that has row i at column j
abbrev pub IsTotalWith : Costs → ℕ → ℕ → ℕ → Type 0
IsTotalWith k i j x = (to : ℕ → ℕ) × IsAssignment (cost k) (Below k.size) k.size to × (to i ≡ j) × (x ≡ sum_of (cost k) to k.size)

-- the least total of an assignment that has row i at column j
abbrev pub IsLeastWith : Costs → ℕ → ℕ → Option ℕ → Type 0
IsLeastWith k i j o = IsLeast (IsTotalWith k i j) o

-- ---- tables of least totals
-- the number at a place of a list
abbrev pub nth : List ℕ → ℕ → ℕ
nth xs i = get_or xs i 0

-- the number at a place of a list of lists
abbrev pub at2 : List (List ℕ) → ℕ → ℕ → ℕ
at2 rows i j = nth (get_or rows i []) j

-- what a number stands for: 65535 stands for none
unfoldable pub told : ℕ → Option ℕ
told x = cond (nat_eq x 65535) None (Some x)

-- the row has the least total of row i with each column below m
abbrev pub RowLeast : Costs → ℕ → List ℕ → ℕ → Type 0
RowLeast k i row m = (j : ℕ) → j < m → IsLeastWith k i j (told (nth row j))

-- the table has the least total of each pair of a row below m and a column
abbrev pub AreLeastWith : Costs → List (List ℕ) → ℕ → Type 0
AreLeastWith k table m = (i j : ℕ) → i < m → j < k.size → IsLeastWith k i j (told (at2 table i j))
