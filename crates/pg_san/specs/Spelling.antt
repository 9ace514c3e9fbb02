-- How the parts of a move's text are spelled: a file by its letter, a rank by its digit, a man by its letter.
use Rattle.std.specs.Prelude.{ℕ, ◌+◌, ◌≤◌, Bool, true, false, ◌==◌, if◌then◌else◌, List, [], ◌∷◌, ◌++◌, length, Option, Some, None, codes}
use Rattle.std.specs.Char.{to_ascii_uppercase}
use Prim.Native.Char.{code}
use Rattle.pg_board.specs.declared.man.Kind.{Kind}
use Rattle.pg_board.specs.declared.man.Kind.TheVariants.{Pawn, Knight, Bishop, Rook, Queen, King}
use Rattle.pg_board.specs.Squares.{file, rank}
use Rattle.pg_position.specs.declared.rights.Wing.{Wing}
use Rattle.pg_position.specs.declared.rights.Wing.TheVariants.{KingSide, QueenSide}
use Rattle.pg_san.specs.declared.cores.Core.{Core}
use Rattle.pg_san.specs.declared.said.Form.{Form}
use Rattle.pg_san.specs.declared.said.Form.TheVariants.{Castles, Moves}

-- a file or a rank, if one is given, is one of the board's eight
abbrev pub IsOfBoard : Option ℕ → Type 0
IsOfBoard None = Unit {0}
IsOfBoard (Some n) = (1 ≤ n) × (n ≤ 8)

-- the letter of a file, a for 1 to h for 8, and the digit of a rank
abbrev pub file_byte : ℕ → ℕ
file_byte f = 96 + f

abbrev pub rank_byte : ℕ → ℕ
rank_byte r = 48 + r

abbrev pub file_text : Option ℕ → List ℕ
file_text None = []
file_text (Some f) = file_byte f ∷ []

abbrev pub rank_text : Option ℕ → List ℕ
rank_text None = []
rank_text (Some r) = rank_byte r ∷ []

-- a square: its file and its rank
abbrev pub square_text : ℕ → List ℕ
square_text s = file_byte (file s) ∷ rank_byte (rank s) ∷ []

-- a man's letter; a pawn has none
abbrev pub letter_text : Kind → List ℕ
letter_text Pawn = []
letter_text Knight = codes "N"
letter_text Bishop = codes "B"
letter_text Rook = codes "R"
letter_text Queen = codes "Q"
letter_text King = codes "K"

-- the kind that a capital names: K, Q, R, B, N, and S for a knight too
abbrev pub piece_of : ℕ → Option Kind
piece_of b =
    if b == code "K" then Some King
    else (if b == code "Q" then Some Queen
    else (if b == code "R" then Some Rook
    else (if b == code "B" then Some Bishop
    else (if b == code "N" then Some Knight
    else (if b == code "S" then Some Knight
    else None)))))

-- the kind that a letter names behind a target: Q, R, B, N or S, in either case
abbrev pub promoted_of : ℕ → Option Kind
promoted_of b = if to_ascii_uppercase b == code "K" then None else piece_of (to_ascii_uppercase b)

abbrev pub cross_text : Bool → List ℕ
cross_text true = codes "x"
cross_text false = []

-- `=` and the letter of what a pawn becomes
abbrev pub promotion_text : Option Kind → List ℕ
promotion_text None = []
promotion_text (Some k) = codes "=" ++ letter_text k

abbrev pub castling_text : Wing → List ℕ
castling_text KingSide = codes "O-O"
castling_text QueenSide = codes "O-O-O"

-- the source file that is written: a pawn's only where it captures
abbrev pub written_file : Kind → Bool → Option ℕ → Option ℕ
written_file Pawn false f = None
written_file k takes f = f

-- what is written of a move of a man of kind k, the sign at the end apart
abbrev pub core_text : Kind → Core → List ℕ
core_text k core =
    letter_text k ++ file_text (written_file k core.takes core.file) ++ rank_text core.rank ++ cross_text core.takes
    ++ square_text core.target ++ promotion_text core.promotion

abbrev pub form_text : Kind → Form → List ℕ
form_text k (Castles wing) = castling_text wing
form_text k (Moves core) = core_text k core

-- ---- what can be written: files and ranks of the board, in eight bytes with the sign
pub record IsWritable (k : Kind) (core : Core) (sign : List ℕ) : Type 0 where
  pub file_small : IsOfBoard (written_file k core.takes core.file)
  pub rank_small : IsOfBoard core.rank
  pub room : length (core_text k core ++ sign) ≤ 8

abbrev pub IsFormWritable : Kind → Form → List ℕ → Type 0
IsFormWritable k (Castles wing) sign = length sign ≤ 1
IsFormWritable k (Moves core) sign = IsWritable k core sign
