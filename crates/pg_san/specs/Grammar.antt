-- The grammar of a move's text: which texts spell what is said of a move. The reading functions answer by it: a law
-- says that a text is read so exactly where it is spelled so.
use Rattle.std.specs.Prelude.{◌≡◌, ℕ, ◌<◌, ◌⊎◌, Bool, true, false, List, [], ◌∷◌, ◌++◌, Option, Some, None, codes}
use Prim.Native.Char.{code}
use Rattle.pg_board.specs.declared.man.Kind.{Kind}
use Rattle.pg_board.specs.declared.man.Kind.TheVariants.{Pawn}
use Rattle.pg_board.specs.Squares.{file, rank}
use Rattle.pg_position.specs.declared.rights.Wing.TheVariants.{KingSide, QueenSide}
use Rattle.pg_san.specs.declared.cores.Core.{Core}
use Rattle.pg_san.specs.declared.cores.Parts.{Parts}
use Rattle.pg_san.specs.declared.cores.Sep.{Sep}
use Rattle.pg_san.specs.declared.cores.Sep.TheVariants.{Nothing, Cross, Hyphen}
use Rattle.pg_san.specs.declared.said.Form.{Form}
use Rattle.pg_san.specs.declared.said.Form.TheVariants.{Castles, Moves}
use Rattle.pg_san.specs.declared.said.Said.{Said}
use Rattle.pg_san.specs.Spelling.{IsOfBoard, file_byte, file_text, rank_text, square_text, cross_text, piece_of, promoted_of}

abbrev pub sep_text : Sep → List ℕ
sep_text Nothing = []
sep_text Cross = codes "x"
sep_text Hyphen = codes "-"

-- a source file, a source rank, `x` or `-`, each of which may be missing, and a target
abbrev pub parts_text : Option ℕ → Option ℕ → Sep → ℕ → List ℕ
parts_text f r sep target = file_text f ++ (rank_text r ++ (sep_text sep ++ square_text target))

-- files, ranks and squares of the board
pub record AreOfBoard (p : Parts) : Type 0 where
  pub file_small : IsOfBoard p.file
  pub rank_small : IsOfBoard p.rank
  pub target_small : p.target < 64

-- with `x` the move captures; without, nothing is said of that
abbrev pub is_cross : Sep → Bool
is_cross Nothing = false
is_cross Cross = true
is_cross Hyphen = false

abbrev pub core_to : Option Kind → Option ℕ → Option ℕ → ℕ → Bool → Option Kind → Core
core_to kind f r target takes promotion = record {
  kind = kind;
  file = f;
  rank = r;
  target = target;
  takes = takes;
  promotion = promotion;
}

-- a letter's kind, and what is said of its source
abbrev pub piece_core : Kind → Parts → Core
piece_core kind p = core_to (Some kind) p.file p.rank p.target (is_cross p.sep) None

-- a man's text: its letter; a source file, a source rank, `x` or `-`, each of which may be missing; the target
pub record IsPieceText (text : List ℕ) (core : Core) : Type 0 where
  pub letter : ℕ
  pub kind : Kind
  pub parts : Parts
  pub names : piece_of letter ≡ Some kind
  pub small : AreOfBoard parts
  pub spelled : text ≡ letter ∷ parts_text parts.file parts.rank parts.sep parts.target
  pub says : core ≡ piece_core kind parts

-- the end of a text that promotes: a letter, with `=` before it or not
abbrev pub IsPromotionText : List ℕ → Option Kind → Type 0
IsPromotionText text None = text ≡ []
IsPromotionText text (Some k) =
    (letter : ℕ) × (promoted_of letter ≡ Some k) × ((text ≡ letter ∷ []) ⊎ (text ≡ codes "=" ++ letter ∷ []))

-- a file with `x` behind it or without, where one is given
abbrev pub file_of : Option (ℕ × Bool) → Option ℕ
file_of None = None
file_of (Some s) = Some s.0

abbrev pub left_text : Option (ℕ × Bool) → List ℕ
left_text None = []
left_text (Some s) = file_byte s.0 ∷ cross_text s.1

-- a pawn that leaves this file, and with `x` captures; where no file is given it stays on the target's
abbrev pub pawn_core : Option (ℕ × Bool) → ℕ → Option Kind → Core
pawn_core None target promotion = core_to (Some Pawn) (Some (file target)) None target false promotion
pawn_core (Some s) target promotion = core_to (Some Pawn) (Some s.0) None target s.1 promotion

-- a pawn's text: a file, a file and `x`, or neither; the target; a promotion, or none
pub record IsPawnText (text : List ℕ) (core : Core) : Type 0 where
  pub left : Option (ℕ × Bool)
  pub target : ℕ
  pub end : List ℕ
  pub promotion : Option Kind
  pub left_small : IsOfBoard (file_of left)
  pub target_small : target < 64
  pub end_is : IsPromotionText end promotion
  pub spelled : text ≡ left_text left ++ (square_text target ++ end)
  pub says : core ≡ pawn_core left target promotion

-- any man's text: the source square; `x`, `-` or neither; the target; a promotion, or none
pub record IsSquaresText (text : List ℕ) (core : Core) : Type 0 where
  pub source : ℕ
  pub sep : Sep
  pub target : ℕ
  pub end : List ℕ
  pub promotion : Option Kind
  pub source_small : source < 64
  pub target_small : target < 64
  pub end_is : IsPromotionText end promotion
  pub spelled : text ≡ square_text source ++ (sep_text sep ++ (square_text target ++ end))
  pub says : core ≡ core_to None (Some (file source)) (Some (rank source)) target (is_cross sep) promotion

abbrev pub IsFormText : List ℕ → Form → Type 0
IsFormText text (Castles KingSide) = (text ≡ codes "O-O") ⊎ (text ≡ codes "0-0")
IsFormText text (Castles QueenSide) = (text ≡ codes "O-O-O") ⊎ (text ≡ codes "0-0-0")
IsFormText text (Moves core) = IsPieceText text core ⊎ (IsPawnText text core ⊎ IsSquaresText text core)

-- ---- the ends
abbrev pub IsPassingText : List ℕ → Bool → Type 0
IsPassingText text true = (text ≡ codes "ep") ⊎ (text ≡ codes "e.p.")
IsPassingText text false = text ≡ []

abbrev pub IsCheckText : List ℕ → Type 0
IsCheckText text = (text ≡ []) ⊎ ((text ≡ codes "+") ⊎ ((text ≡ codes "++") ⊎ (text ≡ codes "#")))

abbrev pub IsMark : ℕ → Type 0
IsMark b = (b ≡ code "!") ⊎ (b ≡ code "?")

-- nothing, or one or two of `!` and `?`
abbrev pub IsMarksText : List ℕ → Type 0
IsMarksText [] = Unit {0}
IsMarksText (a ∷ []) = IsMark a
IsMarksText (a ∷ b ∷ []) = IsMark a × IsMark b
IsMarksText _ = ⊥

-- a whole text: castling or a move, and the three ends
pub record IsSaidText (text : List ℕ) (said : Said) : Type 0 where
  pub front : List ℕ
  pub passing : List ℕ
  pub check : List ℕ
  pub marks : List ℕ
  pub spelled : text ≡ front ++ (passing ++ (check ++ marks))
  pub front_is : IsFormText front said.form
  pub passing_is : IsPassingText passing said.passing
  pub check_is : IsCheckText check
  pub marks_is : IsMarksText marks
