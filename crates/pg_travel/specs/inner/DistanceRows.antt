-- The distances of a man to the men of a colour in a diagram, sixteen in a row, in the order of their squares. 255 is none.
use Rattle.std.specs.Prelude.{◌≡◌, ◌≢◌, ℕ, ◌+◌, ◌-◌, ◌*◌, ◌<◌, ◌≤◌, ◌⊎◌, true, cond, eqb, Option, Some, None, List, [], length, get_or}
use Rattle.pg_board.specs.declared.man.Color.{Color}
use Rattle.pg_board.specs.declared.man.Color.TheVariants.{White, Black}
use Rattle.pg_board.specs.declared.man.Kind.{Kind}
use Rattle.pg_board.specs.declared.man.Kind.TheVariants.{Pawn, Knight, Bishop, Rook, Queen, King}
use Rattle.pg_board.specs.declared.man.Man.{Man}
use Rattle.pg_board.specs.Men.{is_of, man, kind_eq, number_of_kind}
use Rattle.pg_board.specs.Placement.{Placement, get}
use Rattle.pg_position.specs.declared.rights.Wing.{Wing}
use Rattle.pg_position.specs.Position.{Stands}
use Rattle.pg_captures.specs.Counting.{men, any_man}
use Rattle.pg_captures.specs.PriceLists.{number_among, price}
use Rattle.pg_travel.specs.Origins.{counted}
use Rattle.pg_travel.specs.inner.Formulas.{distance_of}
use Rattle.pg_travel.specs.inner.PriceTests.{PairFits}

-- a distance as a row has it
abbrev pub stored : ℕ → ℕ
stored n = cond (eqb n 64) 255 n

-- from kind k on r to what stands on t
abbrev pub to_stood : Color → Kind → ℕ → ℕ → Option Man → ℕ
to_stood c k r t None = 0
to_stood c k r t (Some m) = stored (distance_of c m.kind k r t)

-- row has a number for each of sixteen of c's men of d, from the n-th on, and zeros after the last
pub record IsRowOf (d : Placement) (c : Color) (n : ℕ) (f : ℕ → ℕ) (row : List ℕ) : Type 0 where
  pub long : length row ≡ 16
  pub at : (t i : ℕ) → t < 64 → is_of c (get d t) ≡ true → number_among c any_man d t ≡ n + i → i < 16 → get_or row i 0 ≡ f t
  pub rest : (i : ℕ) → men c any_man d ≤ n + i → i < 16 → get_or row i 0 ≡ 0

-- the row of kind k on r, for sixteen men from the n-th on
unfoldable pub IsRowFrom : Placement → Color → Kind → ℕ → ℕ → List ℕ → Type 0
IsRowFrom d c k r n row = IsRowOf d c n (λ t. to_stood c k r t (get d t)) row

-- the row of kind k on r, for the first sixteen
abbrev pub IsRow : Placement → Color → Kind → ℕ → List ℕ → Type 0
IsRow d c k r row = IsRowFrom d c k r 0 row

-- new is row with x for the man with a number, if he is one of sixteen from the n-th on
pub record IsWritten (n number x : ℕ) (row new : List ℕ) : Type 0 where
  pub long : length new ≡ 16
  pub there : (i : ℕ) → i < 16 → number ≡ n + i → get_or new i 0 ≡ x
  pub other : (i : ℕ) → i < 16 → number ≢ n + i → get_or new i 0 ≡ get_or row i 0

-- new has f of the squares of c's men of d of kind j, for sixteen men from the n-th on, and else what old has
pub record IsWithKind (d : Placement) (c : Color) (j : Kind) (n : ℕ) (f : ℕ → ℕ) (old new : List ℕ) : Type 0 where
  pub long : length new ≡ 16
  pub at : (o : Kind) (t i : ℕ) → t < 64 → Stands d c o t → number_among c any_man d t ≡ n + i → i < 16 → get_or new i 0 ≡ cond (kind_eq o j) (f t) (get_or old i 0)
  pub past : (i : ℕ) → men c any_man d ≤ n + i → i < 16 → get_or new i 0 ≡ get_or old i 0

-- where the row of a man of c of kind k on r stands
abbrev pub of_white : Color → ℕ
of_white White = 0
of_white Black = 384

abbrev pub row_place : Color → Kind → ℕ → ℕ
row_place c k r = of_white c + 64 * number_of_kind k + r

-- this is the row that stands there
unfoldable pub IsRowAt : Placement → ℕ → List ℕ → Type 0
IsRowAt d i row = (c : Color) (k : Kind) (r : ℕ) → r < 64 → i ≡ row_place c k r → IsRow d c k r row

-- all rows of d
unfoldable pub AreRows : Placement → List (List ℕ) → Type 0
AreRows d rows = (length rows ≡ 768) × ((i : ℕ) → i < 768 → IsRowAt d i (get_or rows i []))

-- the first n of them
unfoldable pub AreFirstRows : Placement → ℕ → List (List ℕ) → Type 0
AreFirstRows d n rows = (length rows ≡ 768) × ((i : ℕ) → i < n → IsRowAt d i (get_or rows i []))

-- ---- men past the sixteenth
-- c has men among the p-th sixteen, or these are the first
abbrev pub IsReached : Placement → Color → ℕ → Type 0
IsReached d c p = 16 * p ≤ men c any_man d - 1

-- for each of sixteen of c's men of d, from the n-th on, row has the distance from r of a man of the same kind, pawns apart
pub record IsPieceRow (d : Placement) (c : Color) (r n : ℕ) (row : List ℕ) : Type 0 where
  pub long : length row ≡ 16
  pub at : (k : Kind) (t i : ℕ) → k ≢ Pawn → t < 64 → Stands d c k t → number_among c any_man d t ≡ n + i → i < 16 → get_or row i 0 ≡ stored (distance_of c k k r t)
  pub rest : (i : ℕ) → men c any_man d ≤ n + i → i < 16 → get_or row i 0 ≡ 0

-- which of sixteen of c's men of d, from the n-th on, are of kind k: 0 for those, 255 for others, and zeros after the last
pub record IsMask (d : Placement) (c : Color) (k : Kind) (n : ℕ) (mask : List ℕ) : Type 0 where
  pub long : length mask ≡ 16
  pub at : (o : Kind) (t i : ℕ) → t < 64 → Stands d c o t → number_among c any_man d t ≡ n + i → i < 16 → get_or mask i 0 ≡ cond (kind_eq o k) 0 255
  pub rest : (i : ℕ) → men c any_man d ≤ n + i → i < 16 → get_or mask i 0 ≡ 0

-- row where the mask has zeros, and 255 elsewhere
pub record IsUnmasked (mask row new : List ℕ) : Type 0 where
  pub long : length new ≡ 16
  pub seen : (i : ℕ) → i < 16 → get_or mask i 0 ≡ 0 → get_or new i 0 ≡ get_or row i 0
  pub hidden : (i : ℕ) → i < 16 → get_or mask i 0 ≢ 0 → get_or new i 0 ≡ 255

-- where c's p-th sixteen men have their rows: White's from the front, Black's from the back
abbrev pub page_start : Color → ℕ → ℕ
page_start White p = 134 * (p - 1)
page_start Black p = 134 * (3 - p)

-- what stands at place i of such a page, for sixteen men from the n-th on: rows of pawns, of other men, and masks
pub record IsFurtherIn (d : Placement) (c : Color) (n i : ℕ) (row : List ℕ) : Type 0 where
  pub pawn : (r : ℕ) → r < 64 → i ≡ r → IsRowFrom d c Pawn r n row
  pub piece : (r : ℕ) → r < 64 → i ≡ 64 + r → IsPieceRow d c r n row
  pub mask : (k : Kind) → i ≡ 128 + number_of_kind k → IsMask d c k n row

-- what stands at place i of all such pages
unfoldable pub IsFurtherAt : Placement → ℕ → List ℕ → Type 0
IsFurtherAt d i row = (c : Color) (p j : ℕ) → 0 < p → p < 4 → j < 134 → i ≡ page_start c p + j → IsReached d c p → IsFurtherIn d c (16 * p) j row

-- all rows for men of d past the sixteenth
unfoldable pub AreFurther : Placement → List (List ℕ) → Type 0
AreFurther d rows = (length rows ≡ 402) × ((i : ℕ) → i < 402 → IsFurtherAt d i (get_or rows i []))

-- the first n of them
unfoldable pub AreFirstFurther : Placement → ℕ → List (List ℕ) → Type 0
AreFirstFurther d n rows = (length rows ≡ 402) × ((i : ℕ) → i < n → IsFurtherAt d i (get_or rows i []))

-- a target pays no more than u and its number in the row
abbrev pub FitsAt : List ℕ → ℕ → List ℕ → ℕ → Type 0
FitsAt v u row i = (get_or row i 0 ≡ 255) ⊎ (get_or v i 0 ≤ u + get_or row i 0)

-- so does each of sixteen
unfoldable pub RowFits : List ℕ → ℕ → List ℕ → Type 0
RowFits v u row = (i : ℕ) → i < 16 → FitsAt v u row i

-- sixteen prices from the n-th on, and zeros after the last
unfoldable pub AreSixteen : List ℕ → ℕ → List ℕ → Type 0
AreSixteen v n all = (i : ℕ) → i < 16 → get_or all i 0 ≡ get_or v (n + i) 0

-- the prices, sixteen a page
unfoldable pub ArePages : List ℕ → List (List ℕ) → Type 0
ArePages v pages = (length v ≤ 16 * length pages) × ((p : ℕ) → p < length pages → AreSixteen v (16 * p) (get_or pages p []))

-- at most four pages of prices of c's men of d, and zeros after the last
unfoldable pub ArePaged : Placement → Color → List (List ℕ) → Type 0
ArePaged d c pages = (length pages < 5) × ((p i : ℕ) → p < length pages → i < 16 → men c any_man d ≤ 16 * p + i → get_or (get_or pages p []) i 0 ≡ 0)

-- each man of c on d with a price on page p fits a source, kind k on r that pays u
unfoldable pub PageFits : Placement → Color → Kind → ℕ → ℕ → ℕ → List ℕ → Type 0
PageFits d c k r u p v = (j : Kind) (t i : ℕ) → t < 64 → Stands d c j t → number_among c any_man d t ≡ 16 * p + i → i < 16 → PairFits (man c k) r u j t (get_or v i 0)

-- so does each on the first n pages
unfoldable pub FirstFit : Placement → Color → Kind → ℕ → ℕ → List (List ℕ) → ℕ → Type 0
FirstFit d c k r u pages n = (p : ℕ) → p < n → PageFits d c k r u p (get_or pages p [])

-- so does each on all pages
abbrev pub SourceFits : Placement → Color → Kind → ℕ → ℕ → List (List ℕ) → Type 0
SourceFits d c k r u pages = FirstFit d c k r u pages (length pages)

-- so does each such man of b
unfoldable pub MenFit : Placement → Placement → Option Wing → List ℕ → List (List ℕ) → Man → Type 0
MenFit d b way u pages m = (s : ℕ) → s < 64 → get b s ≡ Some m → SourceFits d m.color m.kind (counted m.color way s) (price u m.color any_man b s) pages

-- P holds of c's men of each kind
pub record SourcesFit (c : Color) (P : Man → Type 0) : Type 0 where
  pub pawns : P (man c Pawn)
  pub knights : P (man c Knight)
  pub bishops : P (man c Bishop)
  pub rooks : P (man c Rook)
  pub queens : P (man c Queen)
  pub kings : P (man c King)
