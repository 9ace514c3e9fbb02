-- How positions are written: six fields with one space between two of them.
--     position_text g    the text of a game: rights in the order KQkq, numbers with no leading zeros
use Rattle.std.specs.Prelude.{ℕ, ◌+◌, ◌/◌, ◌%◌, Bool, ◌||◌, List, [], ◌∷◌, ◌++◌, Option, Some, None, if◌then◌else◌, codes}
use Rattle.std.specs.Fmt.{decimal}
use Prim.Native.Char.{code}
use Rattle.pg_board.specs.declared.man.Color.{Color}
use Rattle.pg_board.specs.declared.man.Color.TheVariants.{White, Black}
use Rattle.pg_position.specs.declared.rights.Rights.{Rights}
use Rattle.pg_fen.specs.declared.details.Details.{Details}
use Rattle.pg_fen.specs.declared.games.GameParts.{GameParts}
use Rattle.pg_fen.specs.declared.games.FenGame.{FenGame}
use Rattle.pg_fen.specs.PlacementText.{placement_text}

abbrev pub side_text : Color → List ℕ
side_text White = codes "w"
side_text Black = codes "b"

-- the letter of a right that is held
abbrev pub right_text : Bool → ℕ → List ℕ
right_text held letter = if held then letter ∷ [] else []

abbrev pub any_right : Rights → Bool
any_right r = (r.white_king || r.white_queen) || (r.black_king || r.black_queen)

-- the letters of the rights that are held, in the order KQkq
abbrev pub right_letters : Rights → List ℕ
right_letters r =
    right_text r.white_king (code "K") ++ (right_text r.white_queen (code "Q")
    ++ (right_text r.black_king (code "k") ++ right_text r.black_queen (code "q")))

-- these letters, and `-` for none
abbrev pub rights_text : Rights → List ℕ
rights_text r = if any_right r then right_letters r else codes "-"

-- the letter of the file and the digit of the rank, and `-` for none
abbrev pub passed_text : Option ℕ → List ℕ
passed_text None = codes "-"
passed_text (Some s) = (code "a" + s % 8) ∷ (code "1" + s / 8) ∷ []

-- a space and then the field
abbrev pub spaced : List ℕ → List ℕ
spaced field = code " " ∷ field

-- the five fields behind the placement
abbrev pub details_text : Details → List ℕ
details_text d =
    spaced (side_text d.side) ++ (spaced (rights_text d.rights) ++ (spaced (passed_text d.passed)
    ++ (spaced (decimal d.half) ++ spaced (decimal d.full))))

-- what a text has to say for a game
abbrev pub parts_of_game : FenGame → GameParts
parts_of_game g = record {
  board = g.position.board;
  details = record {
    side = g.position.side;
    rights = g.position.rights;
    passed = g.position.passed;
    half = g.half;
    full = g.full;
  };
}

unfoldable pub position_text : FenGame → List ℕ
position_text g = placement_text g.position.board ++ details_text (parts_of_game g).details
