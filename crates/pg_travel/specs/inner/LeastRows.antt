-- The least distances to the men of a diagram, by rows, from the men of a colour on a board.
use Rattle.std.specs.Prelude.{◌≡◌, ℕ, ◌+◌, ◌<◌, ◌≤◌, ◌⊎◌, min, true, Option, Some, None, List, length, get_or}
use Rattle.pg_board.specs.declared.man.Color.{Color}
use Rattle.pg_board.specs.declared.man.Kind.{Kind}
use Rattle.pg_board.specs.declared.man.Kind.TheVariants.{Rook, King}
use Rattle.pg_board.specs.declared.man.Man.{Man}
use Rattle.pg_board.specs.Bits.{has}
use Rattle.pg_board.specs.Placement.{Placement, get}
use Rattle.pg_board.specs.Tally.{total}
use Rattle.pg_position.specs.declared.rights.Wing.{Wing}
use Rattle.pg_position.specs.declared.rights.Wing.TheVariants.{KingSide, QueenSide}
use Rattle.pg_position.specs.Position.{Stands}
use Rattle.pg_position.specs.Squares.{king_home, rook_home, king_target, king_crossed}
use Rattle.pg_captures.specs.Counting.{men, any_man}
use Rattle.pg_captures.specs.PriceLists.{number_among}
use Rattle.pg_travel.specs.Origins.{counted, charge}
use Rattle.pg_travel.specs.inner.Formulas.{distance_of}
use Rattle.pg_travel.specs.inner.Costs.{nearest}
use Rattle.pg_travel.specs.inner.DistanceRows.{stored, IsRow}

-- the number that a row has for c's man of d on t
abbrev pub at_target : Placement → Color → List ℕ → ℕ → ℕ
at_target d c row t = get_or row (number_among c any_man d t) 0

-- the distance of c's man of kind k on o, where the way counts it, to kind j on t, as a row has it
abbrev pub steps_of : Color → Option Wing → Kind → ℕ → Kind → ℕ → ℕ
steps_of c way k o j t = stored (distance_of c j k (counted c way o) t)

-- no distance to any of n men, and zeros after the last
pub record IsUnreached (n : ℕ) (row : List ℕ) : Type 0 where
  pub long : length row ≡ 16
  pub none : (i : ℕ) → i < n → i < 16 → get_or row i 0 ≡ 255
  pub rest : (i : ℕ) → n ≤ i → i < 16 → get_or row i 0 ≡ 0

-- each number is the lesser of two
unfoldable pub AreLesser : List ℕ → List ℕ → List ℕ → Type 0
AreLesser a b r = (length r ≡ 16) × ((i : ℕ) → i < 16 → get_or r i 0 ≡ min (get_or a i 0) (get_or b i 0))

-- for each of the first sixteen of c's men of d, new is the least of old and of the distances from c's men on squares with P
pub record IsLowered (d b : Placement) (c : Color) (way : Option Wing) (P : ℕ → Type 0) (old new : List ℕ) : Type 0 where
  pub kept : (i : ℕ) → i < 16 → get_or new i 0 ≤ get_or old i 0
  pub below : (j k : Kind) (t o : ℕ) → t < 64 → Stands d c j t → number_among c any_man d t < 16 → o < 64 → P o → Stands b c k o → at_target d c new t ≤ steps_of c way k o j t
  pub from : (j : Kind) (t : ℕ) → t < 64 → Stands d c j t → number_among c any_man d t < 16 → (at_target d c new t ≡ at_target d c old t) ⊎ ((k : Kind) × (o : ℕ) × (o < 64) × P o × Stands b c k o × (at_target d c new t ≡ steps_of c way k o j t))

-- where c's king and rooks stand before they castle
abbrev pub IsHomeOf : Color → ℕ → Type 0
IsHomeOf c q = (q ≡ king_home c) ⊎ ((q ≡ rook_home c KingSide) ⊎ (q ≡ rook_home c QueenSide))

-- the square is not in the set
abbrev pub IsOff : ℕ → ℕ → Type 0
IsOff off q = ¬ (has off q ≡ true)

-- such a man stands there, and the square is not in the set
abbrev pub StandsOff : Placement → Man → ℕ → ℕ → Type 0
StandsOff b m off q = (get b q ≡ Some m) × IsOff off q

-- the least distances from c's men on squares with P
pub record IsLeastFrom (d b : Placement) (c : Color) (P : ℕ → Type 0) (row : List ℕ) : Type 0 where
  pub none : List ℕ
  pub unreached : IsUnreached (men c any_man d) none
  pub lowered : IsLowered d b c None P none row

-- the least distances from c's men where they stand
abbrev pub IsFree : Placement → Placement → Color → List ℕ → Type 0
IsFree d b c row = IsLeastFrom d b c (λ q. q < 64) row

-- the least distances from c's men off these squares
abbrev pub IsAway : Placement → Placement → Color → List ℕ → Type 0
IsAway d b c row = IsLeastFrom d b c (λ q. ¬ IsHomeOf c q) row

-- the least distance to each of the first sixteen of c's men of d, and zeros after the last
pub record IsLeastRow (d b : Placement) (c : Color) (way : Option Wing) (row : List ℕ) : Type 0 where
  pub at : (j : Kind) (t : ℕ) → t < 64 → Stands d c j t → number_among c any_man d t < 16 → at_target d c row t ≡ stored (nearest b c way j t)
  pub rest : (i : ℕ) → men c any_man d ≤ i → i < 16 → get_or row i 0 ≡ 0

-- none of c's men on b is nearer to one of the first sixteen of c's men of d than the row has it, and zeros after the last
pub record IsBelow (d b : Placement) (c : Color) (row : List ℕ) : Type 0 where
  pub below : (j k : Kind) (t o : ℕ) → t < 64 → Stands d c j t → number_among c any_man d t < 16 → o < 64 → Stands b c k o → at_target d c row t ≤ steps_of c None k o j t
  pub top : (j : Kind) (t : ℕ) → t < 64 → Stands d c j t → number_among c any_man d t < 16 → at_target d c row t ≤ 255
  pub rest : (i : ℕ) → men c any_man d ≤ i → i < 16 → get_or row i 0 ≡ 0

-- row is the least of free and of the rows of king and rook on the squares that castling brings them to
pub record IsCastled (d : Placement) (c : Color) (w : Wing) (free row : List ℕ) : Type 0 where
  pub king : List ℕ
  pub rook : List ℕ
  pub with_king : List ℕ
  pub of_king : IsRow d c King (king_target c w) king
  pub of_rook : IsRow d c Rook (king_crossed c w) rook
  pub first : AreLesser free king with_king
  pub second : AreLesser with_king rook row

-- what a way costs by a row
abbrev pub row_cost : Option Wing → List ℕ → ℕ
row_cost way row = charge way + total (λ i. get_or row i 0) 16
