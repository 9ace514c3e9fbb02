-- Prices of pawn files. No pawn pays more than the files that it changes, and each change of file is a capture.
use Rattle.std.specs.Prelude.{◌≡◌, ℕ, ◌+◌, ◌<◌, ◌≤◌, sum, pos, ◌-ℤ◌, ◌<ℤ◌}
use Rattle.pg_board.specs.declared.man.Color.{Color}
use Rattle.pg_board.specs.declared.man.Kind.TheVariants.{Pawn}
use Rattle.pg_board.specs.Squares.{file}
use Rattle.pg_board.specs.Placement.{Placement}
use Rattle.pg_position.specs.declared.state.State.{State}
use Rattle.pg_position.specs.Geometry.{apart, IsForward}
use Rattle.pg_position.specs.Position.{Stands}
use Rattle.pg_captures.specs.Counting.{any_pawn}
use Rattle.pg_captures.specs.Owed.{owed}
use Rattle.pg_captures.specs.PriceLists.{PriceList, price, IsFor}

-- n is the cost from a pawn on s to a pawn on t: they are n files apart, and t is at least n ranks forward.
-- Other squares have no cost
abbrev pub IsShift : Color → ℕ → ℕ → ℕ → Type 0
IsShift c s t n = (apart (file s) (file t) ≡ n) × ((ranks : ℕ) × IsForward c ranks s t × (n ≤ ranks))

-- the list fits: no target pays more than any source that has a cost to it, and that cost
unfoldable pub PawnPricesFit : Placement → Placement → Color → PriceList → Type 0
PawnPricesFit d b c l =
    (s t n : ℕ) → s < 64 → t < 64 → Stands b c Pawn s → Stands d c Pawn t → IsShift c s t n →
    price l.v c any_pawn d t ≤ price l.u c any_pawn b s + n

-- The list excludes: it has a number for each pawn, it fits, and its value, the sum of v less the sum of u, is above
-- the captures that the colour owes.
unfoldable pub PawnPricesExclude : Placement → State → Color → PriceList → Type 0
PawnPricesExclude d p c l =
    IsFor l c any_pawn p.board d × PawnPricesFit d p.board c l
    × (owed d p.board c <ℤ (pos (sum l.v) -ℤ pos (sum l.u)))
