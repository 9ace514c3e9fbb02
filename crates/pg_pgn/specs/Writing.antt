-- Games as they are written in PGN (the export format of the PGN standard, section 8): the seven tags of which nothing is
-- known, an empty line, and the movetext in lines below 80 columns.
use Rattle.std.specs.Prelude.{◌≡◌, ℕ, ◌+◌, ◌/◌, ◌%◌, ◌^◌, ◌<◌, ◌==◌, nat_lt, List, [], ◌∷◌, ◌++◌, Option, length, take, codes, if◌then◌else◌}
use Rattle.std.specs.Fmt.{decimal}
use Rattle.std.specs.Io.KnownBytes.{Appends}
use Rattle.pg_certificate.specs.Pushing.{AddsSome}
use Rattle.pg_position.specs.declared.state.State.{State}
use Rattle.pg_position.specs.declared.moves.Move.{Move}
use Rattle.pg_position.specs.Step.{Legal}
use Rattle.pg_position.specs.Array.{array_state}
use Rattle.pg_san.specs.Writing.{IsSan}

-- the tags, and the empty line behind them
abbrev pub tags : List ℕ
tags =
    codes "[Event \"?\"]\n[Site \"?\"]\n[Date \"????.??.??\"]\n[Round \"?\"]\n[White \"?\"]\n[Black \"?\"]\n[Result \"*\"]\n\n"

-- what stands before a word of this length behind n columns of a line: a space, where the line stays below 80 columns,
-- else a line feed; nothing at the front of a line
abbrev pub gap : ℕ → ℕ → List ℕ
gap n long = if n == 0 then [] else (if nat_lt (n + 1 + long) 80 then codes " " else codes "\n")

-- the columns of the line behind the word
abbrev pub columns : ℕ → ℕ → ℕ
columns n long = if n == 0 then long else (if nat_lt (n + 1 + long) 80 then n + 1 + long else long)

-- a word behind n columns
abbrev pub spaced : ℕ → List ℕ → List ℕ
spaced n word = gap n (length word) ++ word

-- the number before a move of White's; plies are counted from 0
abbrev pub number : ℕ → List ℕ
number ply = decimal (ply / 2 + 1) ++ codes "."

abbrev pub number_text : ℕ → ℕ → List ℕ
number_text n ply = if ply % 2 == 0 then spaced n (number ply) else []

abbrev pub number_columns : ℕ → ℕ → ℕ
number_columns n ply = if ply % 2 == 0 then columns n (length (number ply)) else n

-- behind n columns this is the text of these moves, legal from p on, the first of them with this ply; and n is
-- then k, and p is q
unfoldable pub AreMoves : ℕ → ℕ → State → List Move → ℕ → State → List ℕ → Type 0
AreMoves n ply p [] k q text = (n ≡ k) × (p ≡ q) × (text ≡ [])
AreMoves n ply p (m ∷ ms) k q text =
    (r : State) × (san : List ℕ) × (rest : List ℕ) × Legal p m r × IsSan p m san
    × AreMoves (columns (number_columns n ply) (length san)) (ply + 1) r ms k q rest
    × (text ≡ number_text n ply ++ (spaced (number_columns n ply) san ++ rest))

-- the text of a game: its tags, its moves, and `*`, since nothing is known of its result
unfoldable pub IsGameText : List Move → List ℕ → Type 0
IsGameText game text =
    (k : ℕ) × (q : State) × (moves : List ℕ) × AreMoves 0 0 array_state game k q moves
    × (text ≡ tags ++ (moves ++ (spaced k (codes "*") ++ codes "\n")))

-- the texts of further games, an empty line before each
unfoldable pub AreFurther : List (List Move) → List ℕ → Type 0
AreFurther [] text = text ≡ []
AreFurther (g ∷ gs) text =
    (own : List ℕ) × (rest : List ℕ) × IsGameText g own × AreFurther gs rest × (text ≡ codes "\n" ++ (own ++ rest))

-- the text of games: an empty line stands between two
unfoldable pub IsPgnText : List (List Move) → List ℕ → Type 0
IsPgnText [] text = text ≡ []
IsPgnText (g ∷ gs) text =
    (own : List ℕ) × (rest : List ℕ) × IsGameText g own × AreFurther gs rest × (text ≡ own ++ rest)

-- no game has 2 ^ 63 moves or more
unfoldable pub AreShort : List (List Move) → Type 0
AreShort [] = Unit {0}
AreShort (g ∷ gs) = (length g < 2 ^ 63) × AreShort gs

-- ---- what a sink holds more
-- a move is appended behind n columns, with its number, where it has one; k columns are behind it
abbrev pub AddsPly : ℕ → ℕ → State → Move → ℕ → Option (List ℕ) → Option (List ℕ) → Type 0
AddsPly n ply p m k old new =
    (san : List ℕ) × IsSan p m san × (k ≡ columns (number_columns n ply) (length san))
    × Appends old new (number_text n ply ++ spaced (number_columns n ply) san)

-- the first moves of a game, as many as this, are appended, and lead to p; k columns are behind them
abbrev pub AddsMoves : List Move → ℕ → ℕ → State → Option (List ℕ) → Option (List ℕ) → Type 0
AddsMoves game count k p old new = AddsSome (AreMoves 0 0 array_state (take count game) k p) old new

-- all moves of a game are appended; k columns are behind them
abbrev pub AddsAllMoves : List Move → ℕ → Option (List ℕ) → Option (List ℕ) → Type 0
AddsAllMoves game k old new = (p : State) × AddsSome (AreMoves 0 0 array_state game k p) old new
