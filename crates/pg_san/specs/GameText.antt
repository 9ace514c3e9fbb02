-- How a text of games is cut: into lines, a line into words, and the move number off the front of a word (the PGN
-- standard, section 8.2.2).
use Rattle.std.specs.Prelude.{ℕ, Bool, ◌&&◌, ◌||◌, ◌==◌, not, nat_lt, List, [], ◌∷◌, length, map, drop, if◌then◌else◌, codes}
use Rattle.std.specs.List.{slice_split, filter, prefix_len}
use Rattle.std.specs.Str.Lines.{strip_carriage_return}
use Rattle.std.specs.Char.{is_ascii_digit}
use Prim.Native.Char.{code}

abbrev pub is_feed : ℕ → Bool
is_feed b = b == code "\n"

-- what stands between line feeds, each without the one carriage return at its end
unfoldable pub lines : List ℕ → List (List ℕ)
lines text = map strip_carriage_return (slice_split is_feed text)

-- a space or a tab
abbrev pub is_gap : ℕ → Bool
is_gap b = (b == code " ") || (b == code "\t")

abbrev pub is_word_byte : ℕ → Bool
is_word_byte b = not (is_gap b)

-- what stands between spaces and tabs, what is empty left out
unfoldable pub words : List ℕ → List (List ℕ)
words line = filter (λ word. nat_lt 0 (length word)) (slice_split is_gap line)

abbrev pub is_dot : ℕ → Bool
is_dot b = b == code "."

-- the digits at the front
abbrev pub digits_len : List ℕ → ℕ
digits_len word = prefix_len is_ascii_digit word

-- the dots after them
abbrev pub dots_len : List ℕ → ℕ
dots_len word = prefix_len is_dot (drop (digits_len word) word)

-- the word without a move number: one or more digits and then one or more dots at its front, dropped once
unfoldable pub without_move_number : List ℕ → List ℕ
without_move_number word =
    if nat_lt 0 (digits_len word) && nat_lt 0 (dots_len word)
    then drop (dots_len word) (drop (digits_len word) word) else word

-- the one word `-`, which stands for the game of no move
abbrev pub dash : List (List ℕ)
dash = codes "-" ∷ []
