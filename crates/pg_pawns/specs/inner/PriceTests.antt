-- What the tests of a price list of pawn files say, pair by pair and source by source.
use Rattle.std.specs.Prelude.{ℕ, ◌+◌, ◌<◌, ◌≤◌, List}
use Rattle.pg_board.specs.declared.man.Color.{Color}
use Rattle.pg_board.specs.declared.man.Color.TheVariants.{White, Black}
use Rattle.pg_board.specs.declared.man.Kind.TheVariants.{Pawn}
use Rattle.pg_board.specs.Placement.{Placement}
use Rattle.pg_position.specs.Position.{Stands}
use Rattle.pg_captures.specs.Counting.{any_pawn}
use Rattle.pg_captures.specs.PriceLists.{price}
use Rattle.pg_pawns.specs.PawnPrices.{IsShift}

-- a pawn on t that pays v fits one on s that pays u
unfoldable pub PairFits : Color → ℕ → ℕ → ℕ → ℕ → Type 0
PairFits c s u t v = (n : ℕ) → IsShift c s t n → v ≤ u + n

-- every pawn of d fits one on s that pays u
unfoldable pub SourceFits : Placement → Color → ℕ → ℕ → List ℕ → Type 0
SourceFits d c s u v = (t : ℕ) → t < 64 → Stands d c Pawn t → PairFits c s u t (price v c any_pawn d t)

-- every pawn of d fits every pawn of b
unfoldable pub AllFit : Placement → Placement → Color → List ℕ → List ℕ → Type 0
AllFit b d c u v = (s : ℕ) → s < 64 → Stands b c Pawn s → SourceFits d c s (price u c any_pawn b s) v

-- the second rank is at least n ranks before the first, as the colour's pawns go
abbrev pub IsAhead : Color → ℕ → ℕ → ℕ → Type 0
IsAhead White from to n = from + n ≤ to
IsAhead Black from to n = to + n ≤ from
