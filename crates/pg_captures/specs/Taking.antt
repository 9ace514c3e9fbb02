-- What a legal move takes.
use Rattle.std.specs.Prelude.{◌≡◌, ◌≢◌, ◌⊎◌, Some}
use Rattle.pg_board.specs.declared.man.Kind.TheVariants.{Pawn}
use Rattle.pg_board.specs.Squares.{file}
use Rattle.pg_position.specs.declared.state.State.{State}
use Rattle.pg_position.specs.declared.moves.Move.{Move}
use Rattle.pg_position.specs.Position.{Stands}
use Rattle.pg_position.specs.Step.{IsEnemy}

-- a pawn goes to the passed square from another file
abbrev pub TakesPassing : State → Move → Type 0
TakesPassing p m = (p.passed ≡ Some m.to) × Stands p.board p.side Pawn m.from × (file m.from ≢ file m.to)

-- a man of the other colour stands where the move goes, or the move is a capture en passant
unfoldable pub Takes : State → Move → Type 0
Takes p m = IsEnemy p.board p.side m.to ⊎ TakesPassing p m
