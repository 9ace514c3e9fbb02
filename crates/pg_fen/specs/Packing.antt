-- A placement as 32 bytes: byte j holds square 2 * j in its low half and square 2 * j + 1 in its high half.
use Rattle.std.specs.Prelude.{ℕ, ◌+◌, ◌*◌, List, map, Option, Some, None}
use Rattle.std.specs.List.{range_with_len}
use Rattle.pg_board.specs.declared.man.Color.{Color}
use Rattle.pg_board.specs.declared.man.Color.TheVariants.{White, Black}
use Rattle.pg_board.specs.declared.man.Man.{Man}
use Rattle.pg_board.specs.Men.{number_of_kind}
use Rattle.pg_board.specs.Placement.{Placement, get}

-- the number of the colour's pawn; its knight, bishop, rook, queen and king follow
abbrev pub first_code : Color → ℕ
first_code White = 1
first_code Black = 9

-- 0 for an empty square, 1 to 6 for White's pawn, knight, bishop, rook, queen and king, 9 to 14 for Black's
abbrev pub cell_code : Option Man → ℕ
cell_code None = 0
cell_code (Some m) = first_code m.color + number_of_kind m.kind

abbrev pub packed_byte : Placement → ℕ → ℕ
packed_byte b j = cell_code (get b (2 * j)) + 16 * cell_code (get b (2 * j + 1))

unfoldable pub packed_of : Placement → List ℕ
packed_of b = map (packed_byte b) (range_with_len 0 32)
