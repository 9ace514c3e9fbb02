-- Which text is written for a legal move: no more is said of the man than tells its move apart.
use Rattle.std.specs.Prelude.{◌≡◌, ◌≢◌, ℕ, ◌⊎◌, ◌↔◌, true, List, [], ◌++◌, Option, Some, None, codes}
use Rattle.pg_board.specs.declared.man.Kind.{Kind}
use Rattle.pg_board.specs.declared.man.Kind.TheVariants.{Pawn}
use Rattle.pg_board.specs.Squares.{file, rank}
use Rattle.pg_position.specs.declared.rights.Wing.{Wing}
use Rattle.pg_position.specs.declared.state.State.{State}
use Rattle.pg_position.specs.declared.moves.Move.{Move}
use Rattle.pg_position.specs.Position.{Stands, InCheck}
use Rattle.pg_position.specs.Step.{IsCastling, Legal, IsLegal}
use Rattle.pg_moves.specs.Targets.{plain_move}
use Rattle.pg_san.specs.declared.cores.Core.{Core}
use Rattle.pg_san.specs.declared.rivals.Among.{Among}
use Rattle.pg_san.specs.declared.rivals.Among.TheVariants.{Anywhere, SameFile, SameRank}
use Rattle.pg_san.specs.declared.said.Form.{Form}
use Rattle.pg_san.specs.declared.said.Form.TheVariants.{Castles, Moves}
use Rattle.pg_san.specs.Matching.{IsCapturing}
use Rattle.pg_san.specs.Spelling.{form_text}

-- another man of the mover's kind and colour has the legal move n to the same target
pub record IsRival (p : State) (k : Kind) (m n : Move) : Type 0 where
  pub legal : IsLegal p n
  pub stands : Stands p.board p.side k n.from
  pub target : n.to ≡ m.to
  pub other : n.from ≢ m.from

-- the squares that count: all, those of one file with s, or those of one rank with it
abbrev pub Counts : Among → ℕ → ℕ → Type 0
Counts Anywhere r s = Unit {0}
Counts SameFile r s = file r ≡ file s
Counts SameRank r s = rank r ≡ rank s

-- such a man stands on a square that counts
unfoldable pub HasRival : State → Kind → Move → Among → Type 0
HasRival p k m among = (n : Move) × Counts among n.from m.from × IsRival p k m n

-- a man of kind k on s, no pawn and not the mover, may go to the same target, and its square counts
pub record IsRivalOn (p : State) (k : Kind) (m : Move) (among : Among) (s : ℕ) : Type 0 where
  pub on : Counts among s m.from
  pub other : s ≢ m.from
  pub stands : Stands p.board p.side k s
  pub legal : IsLegal p (plain_move s m.to)

-- what tells a man other than a pawn apart: nothing without a rival, else its file without a rival on its file, else
-- its rank without a rival on its rank, else its file and its rank
abbrev pub IsHint : State → Kind → Move → Option ℕ → Option ℕ → Type 0
IsHint p k m None None = ¬ HasRival p k m Anywhere
IsHint p k m (Some f) None = HasRival p k m Anywhere × ¬ HasRival p k m SameFile × (f ≡ file m.from)
IsHint p k m None (Some r) = HasRival p k m SameFile × ¬ HasRival p k m SameRank × (r ≡ rank m.from)
IsHint p k m (Some f) (Some r) =
    HasRival p k m SameFile × HasRival p k m SameRank × (f ≡ file m.from) × (r ≡ rank m.from)

-- a pawn's file, which is written where it captures
abbrev pub IsPawnHint : Move → Option ℕ → Option ℕ → Type 0
IsPawnHint m f r = (f ≡ Some (file m.from)) × (r ≡ None)

-- what is said of the move m of a man of kind k
pub record IsCore (p : State) (k : Kind) (m : Move) (c : Core) : Type 0 where
  pub kind_is : c.kind ≡ Some k
  pub target_is : c.target ≡ m.to
  pub takes_is : (c.takes ≡ true) ↔ IsCapturing p k m
  pub promotion_is : c.promotion ≡ m.promotion
  pub pawn_is : k ≡ Pawn → IsPawnHint m c.file c.rank
  pub other_is : k ≢ Pawn → IsHint p k m c.file c.rank

abbrev pub IsForm : State → Kind → Move → Form → Type 0
IsForm p k m (Castles wing) = IsCastling p k m wing
IsForm p k m (Moves core) = ((wing : Wing) → ¬ IsCastling p k m wing) × IsCore p k m core

-- a legal move can be made
abbrev pub HasLegal : State → Type 0
HasLegal q = (n : Move) × IsLegal q n

-- the sign at the end, by the position after the move: none where no king is attacked, `+` for check, `#` for checkmate
abbrev pub IsSignOf : State → List ℕ → Type 0
IsSignOf q sign =
    (¬ InCheck q.board q.side × (sign ≡ []))
    ⊎ ((InCheck q.board q.side × HasLegal q × (sign ≡ codes "+"))
    ⊎ (InCheck q.board q.side × ¬ HasLegal q × (sign ≡ codes "#")))

-- the text that is written for the legal move m: what is said of it, and the sign
pub record IsSan (p : State) (m : Move) (text : List ℕ) : Type 0 where
  pub kind : Kind
  pub form : Form
  pub sign : List ℕ
  pub after : State
  pub stands : Stands p.board p.side kind m.from
  pub form_is : IsForm p kind m form
  pub legal : Legal p m after
  pub sign_is : IsSignOf after sign
  pub spelled : text ≡ form_text kind form ++ sign
