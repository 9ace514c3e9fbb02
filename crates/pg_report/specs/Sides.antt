-- What a colour needs at least from the initial array to a diagram d, in plies of its own, and what shows it.
use Rattle.std.specs.Prelude.{◌≡◌, ℕ, ◌+◌, ◌⊎◌, Option, Some, None}
use Rattle.pg_board.specs.Placement.{Placement}
use Rattle.pg_board.specs.declared.man.Color.{Color}
use Rattle.pg_board.specs.declared.man.Color.TheVariants.{White}
use Rattle.pg_position.specs.Array.{array_state}
use Rattle.pg_captures.specs.Owed.{plies_left, CapturesFor, PromotionsFor}
use Rattle.pg_pawns.specs.PawnFiles.{PawnFilesFor}
use Rattle.pg_travel.specs.Needs.{TravelTest}
use Rattle.pg_report.specs.Shortest.{HasPawnPrices, HasTravelPrices, NoneBelow}
use Rattle.pg_report.specs.declared.sides.Reason.{Reason}
use Rattle.pg_report.specs.declared.sides.Reason.TheVariants.{Captures, Promotions, PawnFiles, Travel, Pairs}

-- how many of the first m plies of a game are the colour's
abbrev pub own_plies : Color → ℕ → ℕ
own_plies c m = plies_left White c m

-- for this reason no game of m plies from the initial array ends on d: what c has
-- to capture, the pieces that its pawns have to become, the files that they have to
-- change, by lines or by prices, the moves of the nearest men, or those by prices
abbrev pub Binds : Placement → ℕ → Color → Reason → Type 0
Binds d m c Captures = CapturesFor d array_state.board White m c
Binds d m c Promotions = PromotionsFor d array_state.board c
Binds d m c PawnFiles = PawnFilesFor d array_state.board c ⊎ HasPawnPrices d c
Binds d m c Travel = TravelTest d array_state m c
Binds d m c Pairs = HasTravelPrices d m c

-- no reason but one by prices shows that no game of m plies ends on d
pub record IsOpenFor (d : Placement) (m : ℕ) (c : Color) : Type 0 where
  pub captures : ¬ Binds d m c Captures
  pub promotions : ¬ Binds d m c Promotions
  pub files : ¬ PawnFilesFor d array_state.board c
  pub travel : ¬ Binds d m c Travel

-- the reason shows that no game of one ply less than m ends on d; there is none where m is 0
abbrev pub IsLastReason : Placement → ℕ → Color → Option Reason → Type 0
IsLastReason d m c None = m ≡ 0
IsLastReason d m c (Some reason) = (k : ℕ) × (m ≡ k + 1) × Binds d k c reason

-- c needs n plies of its own: those of some number of plies that is open
-- for it, and no game of fewer plies than that number ends on d
pub record NeedsPlies (d : Placement) (c : Color) (n : ℕ) (reason : Option Reason) : Type 0 where
  pub plies : ℕ
  pub own : n ≡ own_plies c plies
  pub is_open : IsOpenFor d plies c
  pub none_shorter : NoneBelow d (Some plies)
  pub last : IsLastReason d plies c reason

-- what c needs, and for what reason; with no number no game of 128 plies or fewer ends on d
abbrev pub IsSideNeed : Placement → Color → Option ℕ → Option Reason → Type 0
IsSideNeed d c None reason = NoneBelow d None × IsLastReason d 129 c reason
IsSideNeed d c (Some n) reason = NeedsPlies d c n reason
