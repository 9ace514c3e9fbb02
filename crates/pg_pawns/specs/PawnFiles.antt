-- The pawn-files test. A pawn changes its file by a capture alone, one file at a time. d is the diagram's placement,
-- b a position's.
use Rattle.std.specs.Prelude.{ℕ, ◌+◌, ◌-◌, Bool, ◌&&◌, not, nat_le, pos, ◌<ℤ◌}
use Rattle.pg_board.specs.declared.man.Color.{Color}
use Rattle.pg_board.specs.declared.man.Kind.{Kind}
use Rattle.pg_board.specs.Squares.{file}
use Rattle.pg_board.specs.Tally.{total}
use Rattle.pg_board.specs.Placement.{Placement}
use Rattle.pg_position.specs.declared.state.State.{State}
use Rattle.pg_captures.specs.Counting.{men, is_pawn}
use Rattle.pg_captures.specs.Owed.{owed}

-- the pawns left of the line after the file n, and right of it
abbrev pub pawn_left : ℕ → ℕ → Kind → Bool
pawn_left n s k = is_pawn k && nat_le (file s) n

abbrev pub pawn_right : ℕ → ℕ → Kind → Bool
pawn_right n s k = is_pawn k && not (nat_le (file s) n)

-- how many pawns are short left and right of the line after the file n + 1
unfoldable pub line_need : Placement → Placement → Color → ℕ → ℕ
line_need d b c n =
    (men c (pawn_left (n + 1)) d - men c (pawn_left (n + 1)) b)
    + (men c (pawn_right (n + 1)) d - men c (pawn_right (n + 1)) b)

-- the sum of that over the seven lines between neighbouring files: how many file changes are needed
unfoldable pub shift : Placement → Placement → Color → ℕ
shift d b c = total (line_need d b c) 7

-- The pawn-files test of a colour: its pawns need more file changes than it owes captures.
abbrev pub PawnFilesFor : Placement → Placement → Color → Type 0
PawnFilesFor d b c = owed d b c <ℤ pos (shift d b c)

-- the pawn-files test: that of either colour
unfoldable pub PawnFilesHolds : Placement → State → Type 0
PawnFilesHolds d p = (c : Color) × PawnFilesFor d p.board c
