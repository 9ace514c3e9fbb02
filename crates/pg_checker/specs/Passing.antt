-- Moves that are passed over, since none of them leads to the diagram.
use Rattle.std.specs.Prelude.{◌≡◌, ◌≢◌, ◌++◌, List}
use Rattle.std.specs.List.{Contains}
use Rattle.pg_board.specs.Placement.{Placement}
use Rattle.pg_position.specs.declared.state.State.{State}
use Rattle.pg_position.specs.declared.moves.Move.{Move}
use Rattle.pg_position.specs.Step.{Legal}
use Rattle.pg_moves.specs.Left.{MovesLeft}
use Rattle.pg_moves.specs.Moves.{IsNext}
use Rattle.pg_checker.specs.Left.{left_after}

-- the move is legal and leads to a position whose placement is d
abbrev pub LeadsTo : Placement → State → Move → Type 0
LeadsTo d p m = (q : State) × Legal p m q × (q.board ≡ d)

-- the move leads to no position whose placement is d
abbrev pub LeadsElsewhere : Placement → State → Move → Type 0
LeadsElsewhere d p m = (q : State) → Legal p m q → q.board ≢ d

-- the next move leads to the placement d
abbrev pub NextLeads : Placement → MovesLeft → Type 0
NextLeads d moves = (m : Move) × IsNext moves.position moves.last m × LeadsTo d moves.position m

-- no move that is left leads to the placement d
abbrev pub AllElsewhere : Placement → MovesLeft → Type 0
AllElsewhere d moves =
    (m : Move) → Contains (left_after moves.position moves.last) m → LeadsElsewhere d moves.position m

-- of the moves that were left the first are passed over, none
-- of which leads to the placement d, and the others are left
pub record PassesOver (d : Placement) (old new : MovesLeft) : Type 0 where
  pub position : new.position ≡ old.position
  pub passed : List Move
  pub left : left_after old.position old.last ≡ passed ++ left_after old.position new.last
  pub elsewhere : (m : Move) → Contains passed m → LeadsElsewhere d old.position m
