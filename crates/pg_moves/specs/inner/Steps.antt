-- The steps of one pawn, by sets shifted along the board.
use Rattle.std.specs.Prelude.{◌≡◌, ℕ}
use Rattle.pg_board.specs.declared.man.Color.{Color}
use Rattle.pg_board.specs.declared.man.Color.TheVariants.{White, Black}
use Rattle.pg_board.specs.Placement.{Placement}
use Rattle.pg_board.specs.Squares.{file}
use Rattle.pg_position.specs.Geometry.{IsForward}
use Rattle.pg_position.specs.Position.{IsVacant}

-- the rank to which the colour's pawns go by two squares from home
abbrev pub leap_rank : Color → ℕ
leap_rank White = 4
leap_rank Black = 5

-- s is the square in front of r, and empty
abbrev pub StepsTo : Placement → Color → ℕ → ℕ → Type 0
StepsTo b c r s = ((file r ≡ file s) × IsForward c 1 r s) × IsVacant b s
