-- The grammar of diagrams: which texts spell which values. The reading functions answer by it: laws on public functions
-- say that a text reads as a value exactly where it spells the value.
use Rattle.std.specs.Prelude.{◌≡◌, ◌≢◌, ℕ, ◌+◌, ◌-◌, ◌*◌, ◌<◌, ◌≤◌, ◌⊎◌, Bool, false, List, [], ◌∷◌, ◌++◌, length, replicate, slice_index_or, Option, Some, None, codes, IsTrue, if◌then◌else◌}
use Rattle.std.specs.Str.{all_ascii_digits}
use Rattle.std.specs.Str.Parse.{digits_value}
use Rattle.std.specs.List.{list_all, join_with_byte}
use Prim.Native.Char.{code}
use Rattle.pg_board.specs.declared.man.Man.{Man}
use Rattle.pg_board.specs.declared.man.Color.{Color}
use Rattle.pg_board.specs.declared.man.Color.TheVariants.{White, Black}
use Rattle.pg_board.specs.Placement.{Placement}
use Rattle.pg_position.specs.declared.rights.Rights.{Rights}
use Rattle.pg_fen.specs.declared.details.Details.{Details}
use Rattle.pg_fen.specs.declared.games.GameParts.{GameParts}
use Rattle.pg_fen.specs.Letters.{letter_of}
use Rattle.pg_fen.specs.Fields.{fields}
use Rattle.pg_fen.specs.PlacementText.{slash, row}
use Rattle.pg_fen.specs.DetailText.{is_right, count_letter}
use Rattle.pg_fen.specs.DiagramText.{IsDiagram}

-- ---- the placement
-- A character spells squares of a rank: a digit n of 1 to 8 spells n empty ones, a man's letter a square with him.
abbrev pub IsSymbol : ℕ → List (Option Man) → Type 0
IsSymbol b cells =
    ((n : ℕ) × (1 ≤ n) × (n ≤ 8) × (b ≡ 48 + n) × (cells ≡ replicate n None))
    ⊎ ((m : Man) × (b ≡ letter_of m) × (cells ≡ Some m ∷ []))

-- A text spells squares of a rank where its characters do, one after another.
abbrev pub IsRankText : List ℕ → List (Option Man) → Type 0
IsRankText [] cells = cells ≡ []
IsRankText (b ∷ text) cells =
    (first : List (Option Man)) × (others : List (Option Man)) × (cells ≡ first ++ others)
    × IsSymbol b first × IsRankText text others

-- A text spells a placement: eight parts with a slash between two of them, and the part i spells the squares of
-- rank 8 - i from file a to file h.
pub record IsPlacementText (text : List ℕ) (b : Placement) : Type 0 where
  pub ranks : List (List ℕ)
  pub whole : text ≡ join_with_byte slash ranks
  pub eight : length ranks ≡ 8
  pub each : (i : ℕ) → i < 8 → IsRankText (slice_index_or ranks i []) (row b (7 - i))

-- ---- the other fields
-- `w` or `b`
abbrev pub IsSideText : List ℕ → Color → Type 0
IsSideText text White = text ≡ codes "w"
IsSideText text Black = text ≡ codes "b"

-- a letter stands once for a right that is held, and does not stand for one that is not
abbrev pub Tells : ℕ → List ℕ → Bool → Type 0
Tells letter text held = count_letter letter text ≡ (if held then 1 else 0)

-- different letters of `KQkq`, one at least
pub record AreRightLetters (text : List ℕ) (r : Rights) : Type 0 where
  pub some : text ≢ []
  pub letters : IsTrue (list_all is_right text)
  pub white_king : Tells (code "K") text r.white_king
  pub white_queen : Tells (code "Q") text r.white_queen
  pub black_king : Tells (code "k") text r.black_king
  pub black_queen : Tells (code "q") text r.black_queen

-- `-` for no right
abbrev pub no_rights : Rights
no_rights = record { white_king = false; white_queen = false; black_king = false; black_queen = false }

abbrev pub AreRightsText : List ℕ → Rights → Type 0
AreRightsText text r = ((text ≡ codes "-") × (r ≡ no_rights)) ⊎ AreRightLetters text r

-- `-` for none, or the letter of a file 1 to 8 and the digit of rank 3 or 6
abbrev pub IsPassedText : List ℕ → Option ℕ → Type 0
IsPassedText text None = text ≡ codes "-"
IsPassedText text (Some s) =
    (file : ℕ) × (rank : ℕ) × (1 ≤ file) × (file ≤ 8) × ((rank ≡ 3) ⊎ (rank ≡ 6))
    × (text ≡ (96 + file) ∷ (48 + rank) ∷ []) × (s ≡ 8 * (rank - 1) + (file - 1))

-- one or more decimal digits, whose number is at most 65,535
pub record IsNumberText (text : List ℕ) (n : ℕ) : Type 0 where
  pub some : text ≢ []
  pub digits : IsTrue (all_ascii_digits text)
  pub value : n ≡ digits_value 10 text
  pub bound : n ≤ 65535

pub record AreDetailTexts (side rights passed half full : List ℕ) (d : Details) : Type 0 where
  pub side_is : IsSideText side d.side
  pub rights_are : AreRightsText rights d.rights
  pub passed_is : IsPassedText passed d.passed
  pub half_is : IsNumberText half d.half
  pub full_is : IsNumberText full d.full

-- ---- the whole text
-- six fields: a placement, and the five others
pub record IsSixFieldText (text : List ℕ) (g : GameParts) : Type 0 where
  pub placement : List ℕ
  pub side : List ℕ
  pub rights : List ℕ
  pub passed : List ℕ
  pub half : List ℕ
  pub full : List ℕ
  pub are_fields : fields text ≡ placement ∷ side ∷ rights ∷ passed ∷ half ∷ full ∷ []
  pub spelled : IsPlacementText placement g.board
  pub details_are : AreDetailTexts side rights passed half full g.details

-- one field, the placement
pub record IsOneFieldText (text : List ℕ) (b : Placement) : Type 0 where
  pub placement : List ℕ
  pub is_field : fields text ≡ placement ∷ []
  pub spelled : IsPlacementText placement b

-- A text spells a diagram: its placement, alone or before the five other fields of a position, is that of a diagram.
pub record IsDiagramText (text : List ℕ) (b : Placement) : Type 0 where
  pub diagram : IsDiagram b
  pub spelled : IsOneFieldText text b ⊎ ((d : Details) × IsSixFieldText text (record { board = b; details = d }))

-- A text spells what the six fields of a position say: the placement is that of a diagram.
pub record IsPositionText (text : List ℕ) (g : GameParts) : Type 0 where
  pub diagram : IsDiagram g.board
  pub spelled : IsSixFieldText text g
