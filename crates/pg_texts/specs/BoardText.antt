-- A board for the eye: eight ranks and the letters of the files.
use Rattle.std.specs.Prelude.{ℕ, zero, suc, ◌+◌, ◌-◌, ◌*◌, List, [], ◌∷◌, ◌++◌, Option, Some, None, codes}
use Prim.Native.Char.{code}
use Rattle.pg_board.specs.declared.man.Man.{Man}
use Rattle.pg_board.specs.Placement.{Placement, get}
use Rattle.pg_fen.specs.Letters.{letter_of}

-- the letter of a man as in FEN, a dot for none
abbrev pub cell_of : Option Man → ℕ
cell_of None = code "."
cell_of (Some m) = letter_of m

-- a space and the cell, for each of the first n squares of rank r + 1, from file a
unfoldable pub squares_text : Placement → ℕ → ℕ → List ℕ
squares_text b r zero = []
squares_text b r (suc n) = squares_text b r n ++ code " " ∷ cell_of (get b (8 * r + n)) ∷ []

-- the digit of rank r + 1, its eight squares and a line feed
abbrev pub rank_line : Placement → ℕ → List ℕ
rank_line b r = (code "1" + r) ∷ (squares_text b r 8 ++ code "\n" ∷ [])

-- the lines of n ranks, from rank 8 down
unfoldable pub upper_lines : Placement → ℕ → List ℕ
upper_lines b zero = []
upper_lines b (suc n) = upper_lines b n ++ rank_line b (7 - n)

-- the lines of the eight ranks, and the letters of the files
abbrev pub board_text : Placement → List ℕ
board_text b = upper_lines b 8 ++ codes "  a b c d e f g h\n"
