-- What the test of a table finds, row by row. A list of rows has one for each square.
use Rattle.std.specs.Prelude.{◌≡◌, ℕ, suc, ◌+◌, ◌*◌, ◌<◌, ◌≤◌, true, List, [], get_or, min, max}
use Rattle.pg_board.specs.Bits.{has}
use Rattle.pg_board.specs.declared.man.Color.{Color}
use Rattle.pg_board.specs.declared.man.Kind.{Kind}
use Rattle.pg_board.specs.declared.man.Kind.TheVariants.{Pawn, Knight, Bishop, Rook, Queen, King}
use Rattle.pg_board.specs.Men.{number_of_kind, other}
use Rattle.pg_board.specs.Squares.{rank}
use Rattle.pg_position.specs.Squares.{last_rank}
use Rattle.pg_position.specs.Step.{IsPiece}
use Rattle.pg_journeys.specs.Facts.{Facts}
use Rattle.pg_journeys.specs.Journeys.{IsLeg}
use Rattle.pg_journeys.specs.lemmas.Turns.{leg}
use Rattle.pg_journeys.specs.inner.Grounds.{Pushes, Captures}
use Rattle.pg_journeys.specs.inner.Sides.{square_at, kind_at}
use Rattle.pg_journeys.specs.declared.men.Men.{Men}
use Rattle.pg_tolls.specs.Tariffs.{Tariff}
use Rattle.pg_tolls.specs.inner.Tables.{entry, raised, IsWithin}

-- a number of a row, and one of the row of a square
abbrev pub nth : List ℕ → ℕ → ℕ
nth row e = get_or row e 0

abbrev pub cell : List (List ℕ) → ℕ → ℕ → ℕ
cell rows s e = nth (get_or rows s []) e

-- ---- rows
abbrev pub AreLesser : List ℕ → List ℕ → List ℕ → ℕ → Type 0
AreLesser first second lesser n = (e : ℕ) → e < n → nth lesser e ≡ min (nth first e) (nth second e)

abbrev pub AreGreater : List ℕ → List ℕ → List ℕ → ℕ → Type 0
AreGreater first second greater n = (e : ℕ) → e < n → nth greater e ≡ max (nth first e) (nth second e)

abbrev pub AreCharged : List ℕ → ℕ → List ℕ → ℕ → Type 0
AreCharged row charge charged n = (e : ℕ) → e < n → nth charged e ≡ min (nth row e + charge) 65534

-- the greatest number before a step of this charge that is within the one behind it
abbrev pub grown_by : ℕ → ℕ → ℕ
grown_by behind charge = max (min (behind + charge) 65534) behind

abbrev pub AreGrown : List ℕ → ℕ → List ℕ → ℕ → Type 0
AreGrown row charge grown n = (e : ℕ) → e < n → nth grown e ≡ grown_by (nth row e) charge

abbrev pub AreAtMost : List ℕ → List ℕ → ℕ → Type 0
AreAtMost row bound n = (e : ℕ) → e < n → nth row e ≤ nth bound e

-- ---- rows by squares
-- each number is at most those of the rows of a set of squares
abbrev pub IsLeast : List (List ℕ) → ℕ → List ℕ → Type 0
IsLeast rows squares least = (q e : ℕ) → q < 64 → e < 16 → has squares q ≡ true → nth least e ≤ cell rows q e

-- and no less than what all of them are no less than
abbrev pub IsNoLess : List (List ℕ) → ℕ → List ℕ → Type 0
IsNoLess rows squares least =
    (m e : ℕ) → e < 16 → m ≤ 65535 → ((q : ℕ) → q < 64 → has squares q ≡ true → m ≤ cell rows q e) → m ≤ nth least e

-- the rows of a kind in a table, with j marks left
abbrev pub AreRowsOf : List (List ℕ) → ℕ → Kind → List (List ℕ) → ℕ → Type 0
AreRowsOf table j k rows n = (s : ℕ) → s < n → get_or rows s [] ≡ get_or table ((j * 6 + number_of_kind k) * 64 + s) []

-- the rows before the mark of a step to each square
abbrev pub AreTaken : Tariff → Color → List (List ℕ) → List (List ℕ) → ℕ → Type 0
AreTaken t c rows taken n = (s : ℕ) → s < n → AreGrown (get_or rows s []) (raised t c s) (get_or taken s []) 16

-- the same of a kind's rows with a mark less than j
abbrev pub AreMarked : Tariff → Color → List (List ℕ) → ℕ → Kind → List (List ℕ) → Type 0
AreMarked t c table j k marked = (i s e : ℕ) → j ≡ suc i → s < 64 → e < 16 → IsWithin (cell marked s e) (entry table i k s e) (raised t c s)

-- the rows of coming to each square
abbrev pub AreComing : List (List ℕ) → List (List ℕ) → List (List ℕ) → ℕ → Type 0
AreComing plain marked coming n = (s : ℕ) → s < n → AreLesser (get_or plain s []) (get_or marked s []) (get_or coming s []) 16

-- the rows are at most others on a rank
abbrev pub AreLowOn : ℕ → List (List ℕ) → List (List ℕ) → Type 0
AreLowOn n rows bounds = (q : ℕ) → q < 64 → rank q ≡ n → AreAtMost (get_or rows q []) (get_or bounds q []) 16

-- ---- steps
-- a piece's rows are within those of coming by his steps from the first n squares
abbrev pub ArePieceSteps : Facts → Color → Kind → ℕ → List (List ℕ) → List (List ℕ) → ℕ → Type 0
ArePieceSteps f c k weight rows coming n =
    (s q e : ℕ) → s < n → q < 64 → e < 16 → IsLeg f c (leg k s k q) → IsWithin (cell rows s e) (cell coming q e) weight

-- a pawn's rows are within those of his steps from the first n squares
pub record ArePawnSteps (f : Facts) (c : Color) (weight : ℕ) (rows marked : List (List ℕ)) (n : ℕ) : Type 0 where
  pub pushes : (s q e : ℕ) → s < n → q < 64 → e < 16 → Pushes f c s q → IsWithin (cell rows s e) (cell rows q e) weight
  pub captures : (s q e : ℕ) → s < n → q < 64 → e < 16 → Captures f c s q → IsWithin (cell rows s e) (cell marked q e) weight

-- a pawn's rows on the last rank are at most those of a kind
abbrev pub IsPromotedTo : Color → List (List ℕ) → ℕ → List (List ℕ) → Kind → Type 0
IsPromotedTo c table j pawns k = (q e : ℕ) → q < 64 → e < 16 → rank q ≡ last_rank c → cell pawns q e ≤ entry table j k q e

-- and so of each kind that he may be there
pub record ArePromoted (c : Color) (table : List (List ℕ)) (j : ℕ) (pawns : List (List ℕ)) : Type 0 where
  pub knight : IsPromotedTo c table j pawns Knight
  pub bishop : IsPromotedTo c table j pawns Bishop
  pub rook : IsPromotedTo c table j pawns Rook
  pub queen : IsPromotedTo c table j pawns Queen

-- ---- a table, with j marks left
-- it is closed under the steps of a kind, no pawn
pub record IsPieceClosed (t : Tariff) (f : Facts) (c : Color) (table : List (List ℕ)) (j : ℕ) (k : Kind) : Type 0 where
  pub plain : (s q e : ℕ) → s < 64 → q < 64 → e < 16 → IsLeg f c (leg k s k q) → IsWithin (entry table j k s e) (entry table j k q e) (t.weight c)
  pub take : (i s q e : ℕ) → j ≡ suc i → s < 64 → q < 64 → e < 16 → IsLeg f c (leg k s k q) →
      IsWithin (entry table j k s e) (entry table i k q e) (t.weight c + raised t c q)

-- and of pawns, who on the last rank count as what they may be there
pub record IsPawnClosed (t : Tariff) (f : Facts) (c : Color) (table : List (List ℕ)) (j : ℕ) : Type 0 where
  pub plain : (s q e : ℕ) → s < 64 → q < 64 → e < 16 → Pushes f c s q → IsWithin (entry table j Pawn s e) (entry table j Pawn q e) (t.weight c)
  pub take : (i s q e : ℕ) → j ≡ suc i → s < 64 → q < 64 → e < 16 → Captures f c s q →
      IsWithin (entry table j Pawn s e) (entry table i Pawn q e) (t.weight c + raised t c q)
  pub promoted : (k : Kind) (q e : ℕ) → IsPiece k → q < 64 → e < 16 → rank q ≡ last_rank c → entry table j Pawn q e ≤ entry table j k q e

pub record AreStepsClosed (t : Tariff) (f : Facts) (c : Color) (table : List (List ℕ)) (j : ℕ) : Type 0 where
  pub pawn : IsPawnClosed t f c table j
  pub knight : IsPieceClosed t f c table j Knight
  pub bishop : IsPieceClosed t f c table j Bishop
  pub rook : IsPieceClosed t f c table j Rook
  pub queen : IsPieceClosed t f c table j Queen
  pub king : IsPieceClosed t f c table j King

-- its numbers of being captured, for a kind, are not above what is charged for that
abbrev pub AreFalls : Tariff → Facts → Color → List (List ℕ) → ℕ → Kind → Type 0
AreFalls t f c table j k =
    (s : ℕ) → s < 64 → f.lands (other c) s ≡ true → entry table j k s 15 + raised t (other c) s ≤ 128 * j + 255

pub record AreAllFalls (t : Tariff) (f : Facts) (c : Color) (table : List (List ℕ)) (j : ℕ) : Type 0 where
  pub pawn : AreFalls t f c table j Pawn
  pub knight : AreFalls t f c table j Knight
  pub bishop : AreFalls t f c table j Bishop
  pub rook : AreFalls t f c table j Rook
  pub queen : AreFalls t f c table j Queen

-- the first n men of the diagram are become by no step
abbrev pub AreGoals : Men → List (List ℕ) → ℕ → ℕ → Type 0
AreGoals goals table j n = (e : ℕ) → e < n → entry table j (kind_at goals e) (square_at goals e) e ≤ 128 * j

-- all of these
pub record IsLayer (t : Tariff) (f : Facts) (c : Color) (goals : Men) (table : List (List ℕ)) (j : ℕ) : Type 0 where
  pub ends : AreGoals goals table j goals.count
  pub steps : AreStepsClosed t f c table j
  pub falls : goals.count < 16 → AreAllFalls t f c table j

-- and so with up to n marks
abbrev pub AreLayers : Tariff → Facts → Color → Men → ℕ → List (List ℕ) → Type 0
AreLayers t f c goals n table = (j : ℕ) → j ≤ n → IsLayer t f c goals table j

-- ---- the empty table
-- no toll of c on the first n squares is above 127
abbrev pub HasLowTolls : Tariff → Color → ℕ → Type 0
HasLowTolls t c n = (s : ℕ) → s < n → raised t c s ≤ 255
