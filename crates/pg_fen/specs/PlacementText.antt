-- The placement of men as text (the PGN standard, section 16.1.3.1): eight ranks from 8 to 1 with a slash between two
-- of them; a rank has, from file a to file h, a man's letter for the man and a digit 1 to 8 for that number of empty
-- squares.
--     read_placement text   what a text reads as: a placement, or the first fault
--     placement_text b      what a placement is written as
use Rattle.std.specs.Prelude.{ℕ, zero, suc, ◌+◌, ◌-◌, ◌*◌, ◌/◌, ◌%◌, Bool, ◌&&◌, ◌||◌, not, ◌==◌, List, [], ◌∷◌, ◌++◌, length, map, replicate, slice_index_or, Option, Some, None, Result, Ok, Err, if◌then◌else◌, nat_lt, nat_le}
use Rattle.std.specs.Option.{is_some}
use Rattle.std.specs.List.{slice_split, sum_by, list_all, flat_map, range_with_len, join_with_byte}
use Prim.Native.Char.{code}
use Rattle.pg_board.specs.declared.man.Man.{Man}
use Rattle.pg_board.specs.declared.man.Kind.TheVariants.{Pawn}
use Rattle.pg_board.specs.declared.man.Color.TheVariants.{White, Black}
use Rattle.pg_board.specs.Men.{king_of, kind_eq}
use Rattle.pg_board.specs.Squares.{rank}
use Rattle.pg_board.specs.Placement.{Placement, get, placement_of}
use Rattle.pg_board.specs.Tally.{count_of, tally}
use Rattle.pg_fen.specs.declared.fault.FenFault.{FenFault}
use Rattle.pg_fen.specs.declared.fault.FenFault.TheVariants.{Rank, Letter, Kings, PawnRank}
use Rattle.pg_fen.specs.Letters.{man_of, letter_of}

-- ---- ranks and their widths
-- a digit 1 to 8, which stands for that number of empty squares
abbrev pub is_run : ℕ → Bool
is_run b = nat_le (code "1") b && nat_le b (code "8")

abbrev pub slash : ℕ
slash = code "/"

abbrev pub is_slash : ℕ → Bool
is_slash b = b == slash

-- How many squares a byte takes. A byte from 128 to 191 goes on with a character that began before it and takes none,
-- so that a character takes one square, and a digit 1 to 8 as many as it says.
abbrev pub width_of : ℕ → ℕ
width_of b = if is_run b then b - code "0" else (if nat_le 128 b && nat_lt b 192 then 0 else 1)

-- how many squares a character takes
abbrev pub width_of_char : ℕ → ℕ
width_of_char c = if is_run c then c - code "0" else 1

abbrev pub is_eight_wide : List ℕ → Bool
is_eight_wide text = sum_by width_of text == 8

-- eight ranks, each eight squares wide
abbrev pub ranks_fit : List ℕ → Bool
ranks_fit text = (length (slice_split is_slash text) == 8) && list_all is_eight_wide (slice_split is_slash text)

-- the same by characters: what `ranks_fit` says of the bytes of a text
abbrev pub chars_are_eight_wide : List ℕ → Bool
chars_are_eight_wide rank = sum_by width_of_char rank == 8

abbrev pub ranks_fit_by_chars : List ℕ → Bool
ranks_fit_by_chars chars =
    (length (slice_split is_slash chars) == 8) && list_all chars_are_eight_wide (slice_split is_slash chars)

-- ---- letters
abbrev pub is_letter : ℕ → Bool
is_letter b = is_run b || is_slash b || is_some (man_of b)

-- each byte is a man's letter, a digit 1 to 8 or a slash
abbrev pub letters_fit : List ℕ → Bool
letters_fit text = list_all is_letter text

-- ---- the squares
abbrev pub square_with : Option Man → List (Option Man)
square_with None = []
square_with (Some m) = Some m ∷ []

-- the squares that a byte stands for
abbrev pub squares_of : ℕ → List (Option Man)
squares_of b = if is_run b then replicate (b - 48) None else square_with (man_of b)

-- the squares that a text stands for: a8 to h8, a7 to h7, and so on to a1 to h1
abbrev pub squares : List ℕ → List (Option Man)
squares text = flat_map squares_of text

-- The place of the square with an index in that order. It is also the index of the square at a place.
abbrev pub seen_at : ℕ → ℕ
seen_at s = 56 - 8 * (s / 8) + s % 8

-- the placement with these squares
unfoldable pub placed : List ℕ → Placement
placed text = placement_of (λ s. slice_index_or (squares text) (seen_at s) None)

-- ---- kings and pawns
abbrev pub has_kings : Placement → Bool
has_kings b = (count_of b (king_of White) == 1) && (count_of b (king_of Black) == 1)

abbrev pub is_edge : ℕ → Bool
is_edge s = (rank s == 1) || (rank s == 8)

-- a pawn on rank 1 or 8
abbrev pub is_edge_pawn : ℕ → Man → Bool
is_edge_pawn s m = is_edge s && kind_eq m.kind Pawn

abbrev pub has_no_edge_pawn : Placement → Bool
has_no_edge_pawn b = tally is_edge_pawn b == 0

-- ---- reading
-- the placement that a text spells, or the first fault that it has
unfoldable pub read_placement : List ℕ → Result Placement FenFault
read_placement text =
    if not (ranks_fit text) then Err Rank
    else (if not (letters_fit text) then Err Letter
    else (if not (has_kings (placed text)) then Err Kings
    else (if not (has_no_edge_pawn (placed text)) then Err PawnRank
    else Ok (placed text))))

-- ---- writing
-- the digit for n empty squares, and nothing for none
abbrev pub run_text : ℕ → List ℕ
run_text zero = []
run_text (suc n) = (code "1" + n) ∷ []

-- the text of some squares of a rank that stand behind `empty` empty ones
abbrev pub cells_text : ℕ → List (Option Man) → List ℕ
cells_text empty [] = run_text empty
cells_text empty (None ∷ cells) = cells_text (empty + 1) cells
cells_text empty (Some m ∷ cells) = run_text empty ++ letter_of m ∷ cells_text 0 cells

-- the eight squares of rank n + 1, from file a to file h
unfoldable pub row : Placement → ℕ → List (Option Man)
row b n = map (λ f. get b (8 * n + f)) (range_with_len 0 8)

abbrev pub row_text : Placement → ℕ → List ℕ
row_text b n = cells_text 0 (row b n)

-- the texts of ranks 8 to 1, joined by slashes
unfoldable pub placement_text : Placement → List ℕ
placement_text b = join_with_byte slash (map (λ i. row_text b (7 - i)) (range_with_len 0 8))
