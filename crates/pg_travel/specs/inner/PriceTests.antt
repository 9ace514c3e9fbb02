-- What the tests of price lists say, from a pair of men to all.
use Rattle.std.specs.Prelude.{◌≡◌, ℕ, ◌+◌, ◌<◌, ◌≤◌, Bool, true, cond, Option, Some, None, List, length}
use Rattle.pg_board.specs.declared.man.Color.{Color}
use Rattle.pg_board.specs.declared.man.Kind.{Kind}
use Rattle.pg_board.specs.declared.man.Man.{Man}
use Rattle.pg_board.specs.Men.{man}
use Rattle.pg_board.specs.Placement.{Placement}
use Rattle.pg_position.specs.declared.rights.Wing.{Wing}
use Rattle.pg_position.specs.declared.rights.Wing.TheVariants.{KingSide, QueenSide}
use Rattle.pg_position.specs.declared.state.State.{State}
use Rattle.pg_position.specs.Position.{Stands, holds}
use Rattle.pg_captures.specs.Counting.{any_man}
use Rattle.pg_captures.specs.PriceLists.{PriceList, price}
use Rattle.pg_travel.specs.Walks.{IsDistance}
use Rattle.pg_travel.specs.Origins.{counted}
use Rattle.pg_price_lists.specs.PriceRecords.{list_at}
use Rattle.pg_travel.specs.TravelPrices.{WayPricesExclude}

-- the kind j on t pays v: no more than u and the distance of m from r
unfoldable pub PairFits : Man → ℕ → ℕ → Kind → ℕ → ℕ → Type 0
PairFits m r u j t v = (n : ℕ) → IsDistance m.color m.kind r j t n → v ≤ u + n

-- every target fits every source
unfoldable pub AllFit : Placement → Placement → Color → Option Wing → List ℕ → List ℕ → Type 0
AllFit b d c way u v = (j k : Kind) (s t : ℕ) → s < 64 → t < 64 → Stands b c k s → Stands d c j t → PairFits (man c k) (counted c way s) (price u c any_man b s) j t (price v c any_man d t)

-- there is one list for each way, and R holds of it: s and l tell whether castling king side and queen side are ways
abbrev pub Each : (Option Wing → PriceList → Type 0) → Bool → Bool → List PriceList → Type 0
Each R s l ls =
    (length ls ≡ 1 + cond s 1 0 + cond l 1 0) × R None (list_at ls 0)
    × (s ≡ true → R (Some KingSide) (list_at ls 1)) × (l ≡ true → R (Some QueenSide) (list_at ls (1 + cond s 1 0)))

-- it excludes that way
abbrev pub EachExcludes : Placement → State → ℕ → Color → List PriceList → Type 0
EachExcludes d p k c ls = Each (λ way l. WayPricesExclude d p k c way l) (holds p.rights c KingSide) (holds p.rights c QueenSide) ls
