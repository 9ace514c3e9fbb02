-- What a legal move leaves of its own side's men and rights, as far as the position before it tells.
use Rattle.std.specs.Prelude.{◌≡◌, ◌≢◌, ℕ, ◌<◌, ◌⊎◌, true, false, None}
use Rattle.pg_board.specs.declared.man.Color.{Color}
use Rattle.pg_board.specs.declared.man.Kind.{Kind}
use Rattle.pg_board.specs.Bits.{has}
use Rattle.pg_board.specs.Placement.{Placement, get}
use Rattle.pg_position.specs.declared.rights.Wing.{Wing}
use Rattle.pg_position.specs.declared.rights.Wing.TheVariants.{KingSide, QueenSide}
use Rattle.pg_position.specs.declared.state.State.{State}
use Rattle.pg_position.specs.declared.moves.Move.{Move}
use Rattle.pg_position.specs.Position.{Stands, IsPosition, holds}
use Rattle.pg_position.specs.Squares.{king_home, king_target}
use Rattle.pg_travel.specs.inner.Within.{PaysIs, CastledIs}

-- the move goes from the king's home to a square that he castles to
abbrev pub MayCastle : Color → Move → Type 0
MayCastle c m = (m.from ≡ king_home c) × ((m.to ≡ king_target c KingSide) ⊎ (m.to ≡ king_target c QueenSide))

-- the move is told from the position before it
abbrev pub IsTold : Color → Move → Type 0
IsTold c m = (m.promotion ≡ None) × (MayCastle c m → ⊥)

-- each of c's men on a stood on b: the one on s stood on r, and any other where it stands
pub record AreMoved (b a : Placement) (c : Color) (r s : ℕ) : Type 0 where
  pub came : (j : Kind) → Stands a c j s → Stands b c j r
  pub others : (j : Kind) (t : ℕ) → t < 64 → t ≢ s → Stands a c j t → (t ≢ r) × Stands b c j t

-- c has no right in q that it has not in p
abbrev pub KeepsRights : State → State → Color → Type 0
KeepsRights p q c = (w : Wing) → holds q.rights c w ≡ true → holds p.rights c w ≡ true

-- what is known of q after a move of c's in p that moves one man and makes none of another kind of him
pub record IsMoved (p q : State) (c : Color) (m : Move) : Type 0 where
  pub position : IsPosition q
  pub stood : (k : Kind) × Stands p.board c k m.from
  pub men : AreMoved p.board q.board c m.from m.to
  pub rights : KeepsRights p q c

-- a man of c of d is to come to the square, where on b he does not stand
abbrev pub IsToCome : Placement → Placement → Color → ℕ → Type 0
IsToCome b d c t = (j : Kind) × Stands d c j t × (get b t ≢ get d t)

-- one is to come to each square of the set
abbrev pub AreToCome : Placement → Placement → Color → ℕ → Type 0
AreToCome b d c set = (t : ℕ) → t < 64 → has set t ≡ true → IsToCome b d c t

-- n plies pay for no way of c
abbrev pub NonePays : State → Placement → Color → ℕ → Type 0
NonePays q d c n = PaysIs q d c None n false × CastledIs q d c KingSide n false × CastledIs q d c QueenSide n false
