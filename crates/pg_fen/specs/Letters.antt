-- The letters of men: `PNBRQK` are White's pawn, knight, bishop, rook, queen and king, `pnbrqk` are Black's
-- (the PGN standard, section 16.1.3.1).
use Rattle.std.specs.Prelude.{ℕ, ◌==◌, Option, Some, None, if◌then◌else◌, nat_lt}
use Rattle.std.specs.Option.{option_map}
use Rattle.std.specs.Char.{to_ascii_uppercase, to_ascii_lowercase}
use Prim.Native.Char.{code}
use Rattle.pg_board.specs.declared.man.Man.{Man}
use Rattle.pg_board.specs.declared.man.Kind.{Kind}
use Rattle.pg_board.specs.declared.man.Kind.TheVariants.{Pawn, Knight, Bishop, Rook, Queen, King}
use Rattle.pg_board.specs.declared.man.Color.{Color}
use Rattle.pg_board.specs.declared.man.Color.TheVariants.{White, Black}
use Rattle.pg_board.specs.Men.{man}

-- the capital letter of a kind
abbrev pub letter_of_kind : Kind → ℕ
letter_of_kind Pawn = code "P"
letter_of_kind Knight = code "N"
letter_of_kind Bishop = code "B"
letter_of_kind Rook = code "R"
letter_of_kind Queen = code "Q"
letter_of_kind King = code "K"

-- White's letters are capitals, Black's are small
abbrev pub in_case : Color → ℕ → ℕ
in_case White letter = letter
in_case Black letter = to_ascii_lowercase letter

abbrev pub letter_of : Man → ℕ
letter_of m = in_case m.color (letter_of_kind m.kind)

-- the kind that a capital letter stands for
abbrev pub kind_of_letter : ℕ → Option Kind
kind_of_letter b =
    if b == code "P" then Some Pawn
    else (if b == code "N" then Some Knight
    else (if b == code "B" then Some Bishop
    else (if b == code "R" then Some Rook
    else (if b == code "Q" then Some Queen
    else (if b == code "K" then Some King
    else None)))))

-- the man that a letter stands for
abbrev pub man_of : ℕ → Option Man
man_of b =
    option_map (λ kind. man (if nat_lt b (code "a") then White else Black) kind)
    (kind_of_letter (to_ascii_uppercase b))
