-- Steps in six cases, and legal moves (FIDE 3.1 to 3.9).
use Rattle.std.specs.Prelude.{◌<◌, ◌≡◌, ◌≢◌, ℕ, ◌⊎◌, Option, Some, None, Bool, true, nat_eq, ◌&&◌, ◌||◌, not}
use Rattle.pg_board.specs.declared.man.Color.{Color}
use Rattle.pg_board.specs.declared.man.Color.TheVariants.{White, Black}
use Rattle.pg_board.specs.declared.man.Kind.{Kind}
use Rattle.pg_board.specs.declared.man.Kind.TheVariants.{Pawn, King}
use Rattle.pg_board.specs.Squares.{file, rank}
use Rattle.pg_board.specs.Men.{man, other}
use Rattle.pg_board.specs.Placement.{Placement, get, write, put, without}
use Rattle.pg_position.specs.declared.rights.Wing.{Wing}
use Rattle.pg_position.specs.declared.rights.Wing.TheVariants.{KingSide, QueenSide}
use Rattle.pg_position.specs.declared.rights.Rights.{Rights}
use Rattle.pg_position.specs.declared.state.State.{State}
use Rattle.pg_position.specs.declared.moves.Move.{Move}
use Rattle.pg_position.specs.declared.moves.StepKind.{StepKind}
use Rattle.pg_position.specs.declared.moves.StepKind.TheVariants.{Plain, Capture, DoubleAdvance, EnPassant, Promotion, Castling}
use Rattle.pg_position.specs.declared.refusals.Illegal.{Illegal}
use Rattle.pg_position.specs.declared.refusals.Illegal.TheVariants.{EmptyFrom, OtherSide, NotAMove, LeavesCheck}
use Rattle.pg_position.specs.Geometry.{IsForward, InPattern}
use Rattle.pg_position.specs.Attack.{IsClear, Reaches, Attacks}
use Rattle.pg_position.specs.Position.{parts, Stands, IsVacant, InCheck, holds}
use Rattle.pg_position.specs.Squares.{king_home, rook_home, ahead, home_rank, last_rank, king_crossed, king_target}

-- a man of the other colour stands there
unfoldable pub IsEnemy : Placement → Color → ℕ → Type 0
IsEnemy b c s = (k : Kind) × Stands b (other c) k s

-- where a man may go to an empty square: a pawn one forward, any other where it may capture
unfoldable pub Goes : Placement → Color → Kind → ℕ → ℕ → Type 0
Goes b c Pawn r s = (file r ≡ file s) × IsForward c 1 r s
Goes b c k r s = Reaches b c k r s

-- a pawn that comes to the furthest rank
abbrev pub MustPromote : Kind → Color → ℕ → Type 0
MustPromote k c s = (k ≡ Pawn) × (rank s ≡ last_rank c)

-- a knight, bishop, rook or queen
abbrev pub IsPiece : Kind → Type 0
IsPiece k = (k ≢ Pawn) × (k ≢ King)

-- ---- the six cases, for a man of kind k of the side to move on m.from
-- to an empty square (FIDE 3.1, 3.2 to 3.8)
pub record IsPlain (p : State) (k : Kind) (m : Move) : Type 0 where
  pub unpromoted : m.promotion ≡ None
  pub stays : ¬ MustPromote k p.side m.to
  pub vacant : IsVacant p.board m.to
  pub goes : Goes p.board p.side k m.from m.to

-- to a square of the other colour's man, which it takes (FIDE 3.1.1)
pub record IsCapture (p : State) (k : Kind) (m : Move) : Type 0 where
  pub unpromoted : m.promotion ≡ None
  pub stays : ¬ MustPromote k p.side m.to
  pub enemy : IsEnemy p.board p.side m.to
  pub reaches : Reaches p.board p.side k m.from m.to

-- a pawn's two squares from home over an empty square to an empty square (FIDE 3.7.2)
pub record IsDoubleAdvance (p : State) (k : Kind) (m : Move) : Type 0 where
  pub unpromoted : m.promotion ≡ None
  pub pawn : k ≡ Pawn
  pub home : rank m.from ≡ home_rank p.side
  pub two : m.to ≡ ahead p.side 2 m.from
  pub crossed : IsVacant p.board (ahead p.side 1 m.from)
  pub vacant : IsVacant p.board m.to

-- a pawn to the passed square, which it attacks (FIDE 3.7.3.1)
pub record IsEnPassant (p : State) (k : Kind) (m : Move) : Type 0 where
  pub unpromoted : m.promotion ≡ None
  pub pawn : k ≡ Pawn
  pub passed : p.passed ≡ Some m.to
  pub reaches : InPattern p.side Pawn m.from m.to

-- a pawn to the furthest rank, capturing or not, where it becomes the piece x (FIDE 3.7.3.3)
pub record IsPromotion (p : State) (k : Kind) (m : Move) (x : Kind) : Type 0 where
  pub promoted : m.promotion ≡ Some x
  pub piece : IsPiece x
  pub must : MustPromote k p.side m.to
  pub moves :
      (IsVacant p.board m.to × Goes p.board p.side k m.from m.to)
      ⊎ (IsEnemy p.board p.side m.to × Reaches p.board p.side k m.from m.to)

-- the king two squares towards a rook, by a right (FIDE 3.8.2)
pub record IsCastling (p : State) (k : Kind) (m : Move) (w : Wing) : Type 0 where
  pub unpromoted : m.promotion ≡ None
  pub king : k ≡ King
  pub home : m.from ≡ king_home p.side
  pub target : m.to ≡ king_target p.side w
  pub right : holds p.rights p.side w ≡ true
  pub clear : IsClear p.board (king_home p.side) (rook_home p.side w)
  pub safe_home : ¬ Attacks p.board (other p.side) (king_home p.side)
  pub safe_crossed : ¬ Attacks p.board (other p.side) (king_crossed p.side w)
  pub safe_target : ¬ Attacks p.board (other p.side) (king_target p.side w)

-- the king of the side to move castles to the square
abbrev pub CastlesTo : State → ℕ → Type 0
CastlesTo p q = (w : Wing) × IsCastling p King (record { from = king_home p.side; to = q; promotion = None }) w

abbrev pub IsWay : State → Kind → Move → StepKind → Type 0
IsWay p k m Plain = IsPlain p k m
IsWay p k m Capture = IsCapture p k m
IsWay p k m DoubleAdvance = IsDoubleAdvance p k m
IsWay p k m EnPassant = IsEnPassant p k m
IsWay p k m (Promotion x) = IsPromotion p k m x
IsWay p k m (Castling w) = IsCastling p k m w

-- ---- the state after a move
-- the man on r, if there is one, has gone to s
abbrev pub relocated : Placement → ℕ → ℕ → Placement
relocated b r s = write (without b r) s (get b r)

abbrev pub board_after : State → Move → StepKind → Placement
board_after p m Plain = relocated p.board m.from m.to
board_after p m Capture = relocated p.board m.from m.to
board_after p m DoubleAdvance = relocated p.board m.from m.to
board_after p m EnPassant = without (relocated p.board m.from m.to) (ahead (other p.side) 1 m.to)
board_after p m (Promotion x) = put (without p.board m.from) m.to (man p.side x)
board_after p m (Castling w) = relocated (relocated p.board m.from m.to) (rook_home p.side w) (king_crossed p.side w)

-- the crossed square after a two-square advance, and none after any other move
abbrev pub passed_after : State → Move → StepKind → Option ℕ
passed_after p m Plain = None
passed_after p m Capture = None
passed_after p m DoubleAdvance = Some (ahead p.side 1 m.from)
passed_after p m EnPassant = None
passed_after p m (Promotion x) = None
passed_after p m (Castling w) = None

-- the move is from or to the square
abbrev pub touches : Move → ℕ → Bool
touches m s = nat_eq m.from s || nat_eq m.to s

-- a right is kept unless the move touches its king's home or its rook's
abbrev pub keeps : Rights → Move → Color → Wing → Bool
keeps r m c w = holds r c w && not (touches m (king_home c) || touches m (rook_home c w))

abbrev pub rights_after : Rights → Move → Rights
rights_after r m = record {
  white_king = keeps r m White KingSide;
  white_queen = keeps r m White QueenSide;
  black_king = keeps r m Black KingSide;
  black_queen = keeps r m Black QueenSide;
}

-- the whole state after the move
abbrev pub after : State → Move → StepKind → State
after p m w = parts (board_after p m w) (other p.side) (rights_after p.rights m) (passed_after p m w)

-- both squares are on the board
abbrev pub IsOnBoard : Move → Type 0
IsOnBoard m = (m.from < 64) × (m.to < 64)

-- the move leads from p to q by the rules, its king's safety apart
unfoldable pub Step : State → Move → State → Type 0
Step p m q =
    (k : Kind) × (w : StepKind) × IsOnBoard m × Stands p.board p.side k m.from × IsWay p k m w × (q ≡ after p m w)

-- a legal move: a step after which the mover's king is not attacked (FIDE 3.9.2)
abbrev pub Legal : State → Move → State → Type 0
Legal p m q = Step p m q × ¬ InCheck q.board p.side

-- the move may be made: it leads somewhere
abbrev pub IsLegal : State → Move → Type 0
IsLegal p m = (q : State) × Legal p m q

-- why a move is refused: no man on its square, the other side's, no step of the mover's man, or a step into check
abbrev pub IsCause : State → Move → Illegal → Type 0
IsCause p m EmptyFrom = IsVacant p.board m.from
IsCause p m OtherSide = IsEnemy p.board p.side m.from
IsCause p m NotAMove = (k : Kind) × Stands p.board p.side k m.from × ((q : State) → ¬ Step p m q)
IsCause p m LeavesCheck = (q : State) × Step p m q × InCheck q.board p.side
