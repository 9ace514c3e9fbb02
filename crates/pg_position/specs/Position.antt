-- What makes a state a position: a placement, a side to move, rights and a passed square that meet five clauses.
use Rattle.std.specs.Prelude.{◌≡◌, ◌≢◌, ℕ, ◌<◌, Option, Some, None, Bool, true}
use Rattle.pg_board.specs.declared.man.Color.{Color}
use Rattle.pg_board.specs.declared.man.Color.TheVariants.{White, Black}
use Rattle.pg_board.specs.declared.man.Kind.{Kind}
use Rattle.pg_board.specs.declared.man.Kind.TheVariants.{Pawn, Rook, King}
use Rattle.pg_board.specs.Squares.{rank}
use Rattle.pg_board.specs.Men.{man, other}
use Rattle.pg_board.specs.Placement.{Placement, get}
use Rattle.pg_position.specs.declared.rights.Wing.{Wing}
use Rattle.pg_position.specs.declared.rights.Wing.TheVariants.{KingSide, QueenSide}
use Rattle.pg_position.specs.declared.rights.Rights.{Rights}
use Rattle.pg_position.specs.declared.state.State.{State}
use Rattle.pg_position.specs.declared.refusals.BadPosition.{BadPosition}
use Rattle.pg_position.specs.declared.refusals.BadPosition.TheVariants.{Kings, PawnRank, Rights as BadRights, EnPassant, Check}
use Rattle.pg_position.specs.Attack.{Attacks}
use Rattle.pg_position.specs.Squares.{king_home, rook_home, ahead, passed_rank}

-- this man stands on the square
abbrev pub Stands : Placement → Color → Kind → ℕ → Type 0
Stands b c k s = get b s ≡ Some (man c k)

-- the square is empty
abbrev pub IsVacant : Placement → ℕ → Type 0
IsVacant b s = get b s ≡ None

-- the colour has a king on k and no other king
unfoldable pub IsOnlyKing : Placement → Color → ℕ → Type 0
IsOnlyKing b c k = (k < 64) × Stands b c King k × ((t : ℕ) → t < 64 → Stands b c King t → t ≡ k)

-- the colour has one king
unfoldable pub HasOneKing : Placement → Color → Type 0
HasOneKing b c = (k : ℕ) × IsOnlyKing b c k

-- a king of the colour is attacked (FIDE 3.9.1)
unfoldable pub InCheck : Placement → Color → Type 0
InCheck b c = (k : ℕ) × (k < 64) × Stands b c King k × Attacks b (other c) k

-- whether a right to castle is held
abbrev pub holds : Rights → Color → Wing → Bool
holds r White KingSide = r.white_king
holds r White QueenSide = r.white_queen
holds r Black KingSide = r.black_king
holds r Black QueenSide = r.black_queen

-- a state of these parts
abbrev pub parts : Placement → Color → Rights → Option ℕ → State
parts b c r e = record { board = b; side = c; rights = r; passed = e }

-- ---- the five clauses
-- 1 one king of each colour
abbrev pub KingsClause : Placement → Type 0
KingsClause b = HasOneKing b White × HasOneKing b Black

-- 2 no pawn on rank 1 or 8
unfoldable pub PawnsClause : Placement → Type 0
PawnsClause b = (s : ℕ) (c : Color) → s < 64 → Stands b c Pawn s → (rank s ≢ 1) × (rank s ≢ 8)

-- a right has its king and its rook at home
unfoldable pub IsHome : Placement → Color → Wing → Type 0
IsHome b c w = Stands b c King (king_home c) × Stands b c Rook (rook_home c w)

-- 3 each right has its king and rook at home
unfoldable pub RightsClause : Placement → Rights → Type 0
RightsClause b r = (c : Color) (w : Wing) → holds r c w ≡ true → IsHome b c w

-- the other side's last move could have passed the square: it is empty, the pawn stands one step ahead of it, and the
-- pawn's home is empty
unfoldable pub IsPassed : Placement → Color → ℕ → Type 0
IsPassed b c e =
    (rank e ≡ passed_rank c) × IsVacant b e
    × Stands b (other c) Pawn (ahead (other c) 1 e) × IsVacant b (ahead c 1 e)

-- 4 a passed square was passed by a two-square advance
abbrev pub PassedClause : State → Type 0
PassedClause p = (e : ℕ) → p.passed ≡ Some e → IsPassed p.board p.side e

-- 5 the side not to move is not in check
abbrev pub CheckClause : State → Type 0
CheckClause p = ¬ InCheck p.board (other p.side)

pub record IsPosition (p : State) : Type 0 where
  pub kings : KingsClause p.board
  pub pawns : PawnsClause p.board
  pub homes : RightsClause p.board p.rights
  pub passing : PassedClause p
  pub safe : CheckClause p

-- the first clause that is broken
abbrev pub IsFirstBroken : State → BadPosition → Type 0
IsFirstBroken p Kings = ¬ KingsClause p.board
IsFirstBroken p PawnRank = KingsClause p.board × ¬ PawnsClause p.board
IsFirstBroken p BadRights = KingsClause p.board × PawnsClause p.board × ¬ RightsClause p.board p.rights
IsFirstBroken p EnPassant = KingsClause p.board × PawnsClause p.board × RightsClause p.board p.rights × ¬ PassedClause p
IsFirstBroken p Check =
    KingsClause p.board × PawnsClause p.board × RightsClause p.board p.rights × PassedClause p
    × InCheck p.board (other p.side)
