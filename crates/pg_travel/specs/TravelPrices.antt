-- Prices of travel: one list for each way. No man pays more than its distance, and each free step is a ply.
use Rattle.std.specs.Prelude.{ℕ, ◌+◌, ◌<◌, ◌≤◌, Option, Some, None, List, [], ◌∷◌, ◌++◌, cond, sum}
use Rattle.std.specs.List.{AllZip}
use Rattle.pg_board.specs.declared.man.Color.{Color}
use Rattle.pg_board.specs.declared.man.Kind.{Kind}
use Rattle.pg_board.specs.Placement.{Placement}
use Rattle.pg_position.specs.declared.rights.Wing.{Wing}
use Rattle.pg_position.specs.declared.rights.Wing.TheVariants.{KingSide, QueenSide}
use Rattle.pg_position.specs.declared.state.State.{State}
use Rattle.pg_position.specs.Position.{Stands, holds}
use Rattle.pg_captures.specs.Counting.{any_man}
use Rattle.pg_captures.specs.Owed.{plies_left}
use Rattle.pg_travel.specs.Walks.{IsDistance}
use Rattle.pg_travel.specs.Origins.{charge, counted}
use Rattle.pg_captures.specs.PriceLists.{PriceList, price, IsFor}

-- the ways of c in p, in their order: no castling, castling king side, castling queen side, where the rights are held
abbrev pub ways_of : State → Color → List (Option Wing)
ways_of p c = None ∷ (cond (holds p.rights c KingSide) (Some KingSide ∷ []) [] ++ cond (holds p.rights c QueenSide) (Some QueenSide ∷ []) [])

-- the list fits in a way: no target pays more than any source that has a distance to it, and that distance
unfoldable pub TravelPricesFit : Placement → State → Color → Option Wing → PriceList → Type 0
TravelPricesFit d p c way l =
    (k j : Kind) (s t n : ℕ) → s < 64 → t < 64 → Stands p.board c k s → Stands d c j t → IsDistance c k (counted c way s) j t n →
    price l.v c any_man d t ≤ price l.u c any_man p.board s + n

-- the list excludes a way: it has a number for each man, it fits, and its value, the sum of v less the sum of u, with the
-- charge of the way is above the plies left
unfoldable pub WayPricesExclude : Placement → State → ℕ → Color → Option Wing → PriceList → Type 0
WayPricesExclude d p k c way l = IsFor l c any_man p.board d × TravelPricesFit d p c way l × (plies_left p.side c k + sum l.u < sum l.v + charge way)

-- there is one list for each way, and it excludes that way
unfoldable pub TravelPricesExclude : Placement → State → ℕ → Color → List PriceList → Type 0
TravelPricesExclude d p k c lists = AllZip (λ way l. WayPricesExclude d p k c way l) (ways_of p c) lists
