-- The rows of a record of prices as price lists.
use Rattle.std.proofs.Common.{◌≡◌, ℕ, zero, suc, ◌<◌, ◌≤◌, List, [], ◌∷◌, ◌++◌, length, take, drop, replicate, arith}
use Rattle.std.proofs.lemmas.List.{length-take-le}
use Rattle.pg_price_lists.specs.declared.prices.Row.{Row}
use Rattle.pg_price_lists.specs.PriceLists.{PriceList, list_of}
use Rattle.pg_price_lists.specs.PriceRecords.{sources, targets, list_at}

abbrev pub row_list : ℕ → ℕ → Row → PriceList
row_list a b r = list_of (take a r.u) (take b r.v)

abbrev pub rows : ℕ → ℕ → ℕ → Row → Row → Row → List PriceList
rows ways a b x y z = take ways (row_list a b x ∷ (row_list a b y ∷ (row_list a b z ∷ [])))

-- a list with zeros after it, 64 numbers in all
unfoldable pub padded : List ℕ → List ℕ
padded xs = xs ++ drop (length xs) (replicate 64 0)

-- the row of a list
abbrev pub row_of : PriceList → Row
row_of l = record { u = padded l.u; v = padded l.v }

-- one to three rows of 64 numbers, the lists of which have at most 64; behind a list, and where there is none, stand zeros
abbrev pub AreRows : ℕ → ℕ → ℕ → Row → Row → Row → Type 0
AreRows ways a b x y z =
    (0 < ways) × (ways ≤ 3) × (a ≤ 64) × (b ≤ 64) × (length x.u ≡ 64) × (length x.v ≡ 64)
    × (x ≡ row_of (list_at (rows ways a b x y z) 0)) × (y ≡ row_of (list_at (rows ways a b x y z) 1)) × (z ≡ row_of (list_at (rows ways a b x y z) 2))

-- the lists that rows are
pub sources_of : (n a b : ℕ) (x y z : Row) → 0 < n → a ≤ 64 → length x.u ≡ 64 → sources (rows n a b x y z) ≡ a
sources_of zero a b x y z l h e = absurd (omega arith)
sources_of (suc n) a b x y z l h e = length-take-le a x.u (omega arith)

pub targets_of : (n a b : ℕ) (x y z : Row) → 0 < n → b ≤ 64 → length x.v ≡ 64 → targets (rows n a b x y z) ≡ b
targets_of zero a b x y z l h e = absurd (omega arith)
targets_of (suc n) a b x y z l h e = length-take-le b x.v (omega arith)

pub ways_of : (n a b : ℕ) (x y z : Row) → n ≤ 3 → length (rows n a b x y z) ≡ n
ways_of n a b x y z l = length-take-le n (row_list a b x ∷ (row_list a b y ∷ (row_list a b z ∷ []))) (omega arith)

-- how many sources and targets lists are for, where fields have those names
abbrev pub source_number : List PriceList → ℕ
source_number ls = sources ls

abbrev pub target_number : List PriceList → ℕ
target_number ls = targets ls
