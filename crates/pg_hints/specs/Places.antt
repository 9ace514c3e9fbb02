-- Where something stands in a list of games: a game by its line, a byte by its line and its place there.
use Rattle.std.specs.Prelude.{◌≡◌, ℕ, ◌+◌, ◌-◌, ◌<◌, List, [], ◌∷◌, length, take, Option, Some, None, if◌then◌else◌}
use Rattle.std.specs.Borrow.{Bor}
use Rattle.std.specs.List.{slice_split, slice_get, fold}
use Rattle.std.specs.Str.{IsValidUpTo}
use Rattle.pg_position.specs.declared.moves.Move.{Move}
use Rattle.pg_san.specs.GameText.{is_feed}
use Rattle.pg_san.specs.Listing.{IsListing}
use Rattle.pg_hints.specs.declared.places.Place.{Place}

-- ---- lines
-- what stands between line feeds
abbrev pub pieces : List ℕ → List (List ℕ)
pieces text = slice_split is_feed text

-- the pieces that are left: behind a line feed there is one at least
abbrev pub pieces_left : Option (Bor (List ℕ)) → List (List ℕ)
pieces_left None = []
pieces_left (Some text) = pieces text.now

abbrev pub length_left : Option (Bor (List ℕ)) → ℕ
length_left None = 0
length_left (Some text) = length text.now + 1

-- the line with this number, counted from 1, is this text
abbrev pub IsLine : List ℕ → ℕ → List ℕ → Type 0
IsLine text number line = (0 < number) × (slice_get (pieces text) (number - 1) ≡ Some line)

-- read by itself, the line with this number is this game
abbrev pub IsGameAt : List ℕ → ℕ → List Move → Type 0
IsGameAt text number game = (line : List ℕ) × IsLine text number line × IsListing line (game ∷ [])

-- the line with this number is the first that is this game
pub record IsFirstAt (text : List ℕ) (number : ℕ) (game : List Move) : Type 0 where
  pub is : IsGameAt text number game
  pub first : (n : ℕ) → n < number → ¬ IsGameAt text n game

-- one line is a game, and another is the first that is this game
abbrev pub IsFirstLike : List ℕ → ℕ → ℕ → Type 0
IsFirstLike text one first = (game : List Move) × IsGameAt text one game × IsFirstAt text first game

-- ---- bytes
-- the place behind one more byte: a line feed ends a line
abbrev pub next_place : Place → ℕ → Place
next_place place byte =
    if is_feed byte then record { line = place.line + 1; byte = 0 }
    else record { line = place.line; byte = place.byte + 1 }

-- the place behind a text, by the lines that end in it and the bytes behind the last of them
abbrev pub place_behind : List ℕ → Place
place_behind text = fold next_place (record { line = 0; byte = 0 }) text

-- the first byte that no text in UTF-8 goes on with stands here, counted from 1
abbrev pub IsBadAt : List ℕ → Place → Type 0
IsBadAt bytes place =
    (n : ℕ) × IsValidUpTo bytes n × (place.line ≡ (place_behind (take n bytes)).line + 1)
    × (place.byte ≡ (place_behind (take n bytes)).byte + 1)
