-- The men of the side to move, with the sets of the squares to which they go.
use Rattle.std.specs.Prelude.{◌≡◌, ◌↔◌, ℕ, ◌<◌, true, false, None}
use Rattle.pg_board.specs.Bits.{has}
use Rattle.pg_position.specs.declared.state.State.{State}
use Rattle.pg_position.specs.declared.moves.Move.{Move}
use Rattle.pg_position.specs.Position.{Stands}
use Rattle.pg_position.specs.Step.{IsLegal}
use Rattle.pg_moves.specs.Targets.{Covers, IsTried}
use Rattle.pg_moves.specs.declared.sources.Source.{Source}

-- the legal moves from r are those to the squares of the set, without promotion
unfoldable pub IsExact : State → ℕ → ℕ → Type 0
IsExact p r set = (m : Move) → m.from ≡ r → IsLegal p m ↔ ((m.promotion ≡ None) × (m.to < 64) × (has set m.to ≡ true))

-- a man of the side to move on r: the set has where it goes, just that where it is said to be exact, else maybe more
unfoldable pub IsSource : State → ℕ → Source → Type 0
IsSource p r s = Stands p.board p.side s.kind r × (s.exact ≡ true → IsExact p r s.set) × (s.exact ≡ false → Covers p r s.set)

-- such a man, of whom it is told besides that he is a pawn whose moves are tried where his set is not exact
unfoldable pub IsToldSource : State → ℕ → Source → Type 0
IsToldSource p r s =
    Stands p.board p.side s.kind r × (s.exact ≡ true → IsExact p r s.set) × (s.exact ≡ false → Covers p r s.set × IsTried p r)
