-- Ways and origin maps.
use Rattle.std.specs.Prelude.{◌≡◌, ℕ, ◌+◌, ◌<◌, ◌≤◌, Option, Some, None, true, cond, nat_eq, List, length}
use Rattle.pg_board.specs.declared.man.Color.{Color}
use Rattle.pg_board.specs.declared.man.Kind.{Kind}
use Rattle.pg_position.specs.declared.rights.Wing.{Wing}
use Rattle.pg_board.specs.Placement.{Placement}
use Rattle.pg_position.specs.declared.state.State.{State}
use Rattle.pg_position.specs.declared.moves.Move.{Move}
use Rattle.pg_position.specs.Position.{Stands, holds, IsPosition}
use Rattle.pg_position.specs.Squares.{king_home, rook_home, king_crossed, king_target}
use Rattle.pg_travel.specs.Walks.{Walk}
use Rattle.pg_position.specs.Game.{IsGame}
use Rattle.pg_captures.specs.Counting.{any_man, sum_over}
use Rattle.pg_captures.specs.Owed.{plies_left}

-- a way of c in p: no castling, or castling by a right of c that p holds
abbrev pub IsWayOf : State → Color → Option Wing → Type 0
IsWayOf p c None = Unit {0}
IsWayOf p c (Some w) = holds p.rights c w ≡ true

abbrev pub charge : Option Wing → ℕ
charge None = 0
charge (Some w) = 1

-- the square that a man of c on o is counted on: the king and the rook of a castling way on their castled squares
abbrev pub counted : Color → Option Wing → ℕ → ℕ
counted c None o = o
counted c (Some w) o = cond (nat_eq o (king_home c)) (king_target c w) (cond (nat_eq o (rook_home c w)) (king_crossed c w) o)

-- an origin map for c, p and d, with a walk from each origin to its man of d
pub record Origins (d : Placement) (p : State) (c : Color) (way : Option Wing) : Type 0 where
  pub from : ℕ → ℕ
  pub kind : ℕ → Kind
  pub plies : ℕ → ℕ
  pub low : (j : Kind) (t : ℕ) → t < 64 → Stands d c j t → from t < 64
  pub stood : (j : Kind) (t : ℕ) → t < 64 → Stands d c j t → Stands p.board c (kind t) (from t)
  pub walks : (j : Kind) (t : ℕ) → t < 64 → Stands d c j t → Walk c (kind t) (counted c way (from t)) (plies t) j t
  pub different : (j i : Kind) (t u : ℕ) → t < 64 → u < 64 → Stands d c j t → Stands d c i u → from t ≡ from u → t ≡ u

-- a way and an origin map whose walks and charge take at most n plies
abbrev pub ReachedIn : Placement → State → Color → ℕ → Type 0
ReachedIn d p c n = (way : Option Wing) × IsWayOf p c way × ((o : Origins d p c way) × (charge way + sum_over c any_man d o.plies ≤ n))

-- the law: what a game of c's men ends on, c's plies pay for
abbrev pub OriginsLaw : Type 0
OriginsLaw = (p : State) (ms : List Move) (q : State) (c : Color) → IsPosition p → IsGame p ms q → ReachedIn q.board p c (plies_left p.side c (length ms))
