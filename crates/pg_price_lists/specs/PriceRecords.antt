-- One to three price lists of the same lengths, as a list.
use Rattle.std.specs.Prelude.{◌≡◌, ℕ, zero, suc, ◌<◌, ◌≤◌, Option, Some, None, List, [], ◌∷◌, length}
use Rattle.pg_price_lists.specs.PriceLists.{PriceList, list_of}

-- how many sources and targets the lists are for: as the first has
abbrev pub sources : List PriceList → ℕ
sources [] = 0
sources (l ∷ ls) = length l.u

abbrev pub targets : List PriceList → ℕ
targets [] = 0
targets (l ∷ ls) = length l.v

-- the numbers of a way, from 0; none from the number of lists on
abbrev pub u_at : List PriceList → ℕ → List ℕ
u_at [] i = []
u_at (l ∷ ls) zero = l.u
u_at (l ∷ ls) (suc i) = u_at ls i

abbrev pub v_at : List PriceList → ℕ → List ℕ
v_at [] i = []
v_at (l ∷ ls) zero = l.v
v_at (l ∷ ls) (suc i) = v_at ls i

-- the answer of `new`: this one list, none where it has more than 64 entries
abbrev pub NewIs : List ℕ → List ℕ → Option (List PriceList) → Type 0
NewIs u v None = ¬ ((length u ≤ 64) × (length v ≤ 64))
NewIs u v (Some ls) = (length u ≤ 64) × (length v ≤ 64) × (ls ≡ list_of u v ∷ [])

-- another list may be added: fewer than three are held, and it is as long as the first
abbrev pub CanAdd : List PriceList → List ℕ → List ℕ → Type 0
CanAdd ls u v = (length ls < 3) × (length u ≡ sources ls) × (length v ≡ targets ls)

-- the list of a way
abbrev pub list_at : List PriceList → ℕ → PriceList
list_at ls i = list_of (u_at ls i) (v_at ls i)
