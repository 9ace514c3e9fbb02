-- The least length that nothing excludes.
use Rattle.std.specs.Prelude.{◌≡◌, ℕ, ◌<◌, ◌≤◌, ◌⊎◌, Bool, true, false, List, Option, Some, None}
use Rattle.pg_board.specs.Placement.{Placement}
use Rattle.pg_board.specs.declared.man.Color.{Color}
use Rattle.pg_position.specs.Array.{array_state}
use Rattle.pg_position.specs.declared.moves.Move.{Move}
use Rattle.pg_captures.specs.PriceLists.{PriceList}
use Rattle.pg_pawns.specs.PawnPrices.{PawnPricesExclude}
use Rattle.pg_travel.specs.TravelPrices.{TravelPricesExclude}
use Rattle.pg_checker.specs.Answer.{IsSolution}

-- some prices of c's travel exclude the games of m plies from the initial array to d
abbrev pub HasTravelPrices : Placement → ℕ → Color → Type 0
HasTravelPrices d m c = (lists : List PriceList) × TravelPricesExclude d array_state m c lists

-- some prices of c's pawns exclude the games of any number of plies from the initial array to d
abbrev pub HasPawnPrices : Placement → Color → Type 0
HasPawnPrices d c = (list : PriceList) × PawnPricesExclude d array_state c list

-- some prices of a colour's travel, or of its pawns, exclude the games of m plies from the initial array to d
abbrev pub ArePriced : Placement → ℕ → Type 0
ArePriced d m = ((c : Color) × HasTravelPrices d m c) ⊎ ((c : Color) × HasPawnPrices d c)

-- games of m plies are excluded: by a bound, or by prices
abbrev pub IsExcluded : (ℕ → Bool) → Placement → ℕ → Type 0
IsExcluded by_bound d m = (by_bound m ≡ true) ⊎ ArePriced d m

-- no bound excludes n plies, and each smaller number is excluded
pub record IsFirstOpen (by_bound : ℕ → Bool) (d : Placement) (n : ℕ) : Type 0 where
  pub open_here : by_bound n ≡ false
  pub below : (m : ℕ) → m < n → IsExcluded by_bound d m

-- the first number of plies that is not excluded; none where all up to 128 are
abbrev pub IsLeastLength : (ℕ → Bool) → Placement → Option ℕ → Type 0
IsLeastLength by_bound d None = (m : ℕ) → m ≤ 128 → IsExcluded by_bound d m
IsLeastLength by_bound d (Some n) = IsFirstOpen by_bound d n

-- no game of fewer plies ends on d, or none of 128 plies or fewer
abbrev pub NoneBelow : Placement → Option ℕ → Type 0
NoneBelow d None = (m : ℕ) (ms : List Move) → m ≤ 128 → ¬ IsSolution d m ms
NoneBelow d (Some n) = (m : ℕ) (ms : List Move) → m < n → ¬ IsSolution d m ms
