-- Moves that lead to the diagram, squares that they leave and come to, and moves that are passed over.
use Rattle.std.specs.Prelude.{◌≡◌, ◌≢◌, ◌⊎◌, ℕ, ◌<◌, true, Option, Some}
use Rattle.pg_board.specs.Bits.{has}
use Rattle.pg_board.specs.Placement.{Placement}
use Rattle.pg_position.specs.declared.state.State.{State}
use Rattle.pg_position.specs.declared.moves.Move.{Move}
use Rattle.pg_moves.specs.Left.{MovesLeft}
use Rattle.pg_moves.specs.Moves.{IsBefore}
use Rattle.pg_checker.specs.Passing.{LeadsTo}

-- the move is legal and leads to the placement d, and it is not the last one that was handed out
abbrev pub LeadsOn : Placement → State → Option Move → Move → Type 0
LeadsOn d p last m = LeadsTo d p m × (last ≢ Some m)

-- each move that leads to the placement d leaves a square of the set n
abbrev pub HoldsSources : Placement → State → ℕ → Type 0
HoldsSources d p n = (m : Move) → LeadsTo d p m → (m.from < 64) × (has n m.from ≡ true)

-- each move that leads to the placement d comes to a square of the set n
abbrev pub HoldsTargets : Placement → State → ℕ → Type 0
HoldsTargets d p n = (m : Move) → LeadsTo d p m → (m.to < 64) × (has n m.to ≡ true)

-- the further moves of the man that moved last are passed over, or none is
abbrev pub PassesMan : MovesLeft → MovesLeft → Type 0
PassesMan old new = (new ≡ old)
    ⊎ ((a : Move) × (m : Move) × (old.last ≡ Some a) × (new ≡ record old { last = Some m }) × (m.from ≡ a.from) × IsBefore a m)
