-- Where a man of the side to move may go by its pattern, its king's safety apart.
use Rattle.std.specs.Prelude.{◌≡◌, ◌≢◌, ℕ, ◌<◌, ◌⊎◌, Option, Some, None, true, false, cond}
use Rattle.pg_board.specs.declared.man.Color.{Color}
use Rattle.pg_board.specs.declared.man.Kind.{Kind}
use Rattle.pg_board.specs.declared.man.Kind.TheVariants.{Pawn, King}
use Rattle.pg_board.specs.declared.man.Man.{Man}
use Rattle.pg_board.specs.Men.{is_of, other}
use Rattle.pg_board.specs.Squares.{rank}
use Rattle.pg_board.specs.Bits.{has}
use Rattle.pg_board.specs.Placement.{Placement}
use Rattle.pg_position.specs.declared.state.State.{State}
use Rattle.pg_position.specs.declared.moves.Move.{Move}
use Rattle.pg_position.specs.Geometry.{InPattern}
use Rattle.pg_position.specs.Attack.{Reaches}
use Rattle.pg_position.specs.Position.{Stands, IsVacant}
use Rattle.pg_position.specs.Step.{IsLegal, IsEnemy, Goes, MustPromote}
use Rattle.pg_position.specs.Squares.{ahead, home_rank}

-- a man of the colour stands there
unfoldable pub IsOwn : Placement → Color → ℕ → Type 0
IsOwn b c s = (k : Kind) × Stands b c k s

-- a man of the kind goes from r to the empty square s, or captures there
unfoldable pub Strides : Placement → Color → Kind → ℕ → ℕ → Type 0
Strides b c k r s = (IsVacant b s × Goes b c k r s) ⊎ (IsEnemy b c s × Reaches b c k r s)

-- a pawn at home on r goes two squares forward to s, over an empty square to an empty one
unfoldable pub Leaps : Placement → Color → ℕ → ℕ → Type 0
Leaps b c r s = (rank r ≡ home_rank c) × (s ≡ ahead c 2 r) × IsVacant b (ahead c 1 r) × IsVacant b s

-- a man of the kind goes from r to s or captures there, en passant and castling apart
unfoldable pub Advances : Placement → Color → Kind → ℕ → ℕ → Type 0
Advances b c k r s = Strides b c k r s ⊎ ((k ≡ Pawn) × Leaps b c r s)

-- a pawn on r captures en passant on s
unfoldable pub CapturesEnPassant : State → ℕ → ℕ → Type 0
CapturesEnPassant p r s = (p.passed ≡ Some s) × InPattern p.side Pawn r s

-- the set has each square to which a legal move goes from r
unfoldable pub Covers : State → ℕ → ℕ → Type 0
Covers p r set = (m : Move) → IsLegal p m → m.from ≡ r → has set m.to ≡ true

-- ---- men whose moves need no trial
-- a man of the colour, else none
abbrev pub only : Color → Option Man → Option Man
only c o = cond (is_of c o) o None

-- the move without promotion
abbrev pub plain_move : ℕ → ℕ → Move
plain_move r s = record { from = r; to = s; promotion = None }

-- the man on r is no king, and each of its advances that is no promotion is legal
unfoldable pub IsFree : State → Kind → ℕ → Type 0
IsFree p k r =
    (k ≢ King)
    × ((s : ℕ) → s < 64 → Advances p.board p.side k r s → ¬ MustPromote k p.side s → IsLegal p (plain_move r s))

-- each man of the side to move that stands off the set is free
unfoldable pub FreeOff : State → ℕ → Type 0
FreeOff p set = (k : Kind) (r : ℕ) → r < 64 → Stands p.board p.side k r → has set r ≡ false → IsFree p k r

-- the man on r has neither a promotion nor a capture en passant
unfoldable pub IsOrdinary : State → Kind → ℕ → Type 0
IsOrdinary p k r =
    (s : ℕ) → s < 64 →
    (Advances p.board p.side k r s → ¬ MustPromote k p.side s) × (k ≡ Pawn → ¬ CapturesEnPassant p r s)

-- a pawn of the side to move one rank from its last, or one from whose square a pawn captures en passant
pub record IsTried (p : State) (r : ℕ) : Type 0 where
  pub stands : Stands p.board p.side Pawn r
  pub why : (rank r ≡ home_rank (other p.side)) ⊎ ((s : ℕ) × (s < 64) × CapturesEnPassant p r s)
