-- What is remembered of what a colour's men cost, and of whom it is true: of every half of the tariff with its highest tables.
use Rattle.std.specs.Prelude.{◌≡◌, ◌≢◌, ℕ, ◌+◌, ◌-◌, ◌<◌, ◌↔◌, true, false, Option, Some, [], get_or}
use Rattle.pg_board.specs.Bits.{has}
use Rattle.pg_board.specs.declared.man.Color.{Color}
use Rattle.pg_board.specs.declared.man.Kind.{Kind}
use Rattle.pg_board.specs.Men.{color_eq, other}
use Rattle.pg_board.specs.Placement.{Placement}
use Rattle.pg_position.specs.declared.rights.Wing.TheVariants.{KingSide, QueenSide}
use Rattle.pg_position.specs.declared.state.State.{State}
use Rattle.pg_position.specs.Position.{Stands, holds}
use Rattle.pg_captures.specs.Counting.{men, any_man}
use Rattle.pg_assignments.specs.Assignments.{IsLeast}
use Rattle.pg_journeys.specs.Facts.{Facts}
use Rattle.pg_journeys.specs.Rounds.{HasFew}
use Rattle.pg_journeys.specs.inner.Sides.{kind_at, square_at}
use Rattle.pg_journeys.specs.declared.men.Men.{Men}
use Rattle.pg_tolls.specs.Charges.{AreOfWalls}
use Rattle.pg_tolls.specs.Tariffs.{Tariff}
use Rattle.pg_tolls.specs.inner.Highest.{AreTight}
use Rattle.pg_tolls.specs.inner.Tables.{raised}
use Rattle.pg_tolls.specs.inner.Values.{marks_for, IsCost}
use Rattle.pg_tolls.specs.declared.half.Half.{Half}
use Rattle.pg_tolls.specs.declared.tariff.Tariff.{Tariff as Bytes}
use Rattle.pg_tolls.specs.declared.memory.Case.{Case}
use Rattle.pg_tolls.specs.declared.memory.Owner.{Owner}
use Rattle.pg_tolls.specs.declared.memory.Remembered.{Remembered}

-- ---- halves with the highest tables
-- how many marks a table of c is for, where no colour has more than sixteen men
abbrev pub most_for : Placement → Color → ℕ
most_for d c = 16 - men (other c) any_man d

-- what a half has of its tariff, with a table that is closed and as high as any that is
pub record IsTight (t : Tariff) (f : Facts) (d : Placement) (x : Half) : Type 0 where
  pub weight : x.weight ≡ t.weight x.color
  pub lost : (u : ℕ) → u < 64 → get_or x.lost u 0 + raised t (other x.color) u ≡ 255
  pub free : (s : ℕ) → s < 64 → (has x.free s ≡ true) ↔ (f.still s ≡ false)
  pub standing : (i : ℕ) → i < x.goals.count → Stands d x.color (kind_at x.goals i) (square_at x.goals i)
  pub rows : AreTight t f x.color x.goals (most_for d x.color) x.rows.items

-- it is so by the facts that the walls of d tell, unless its table is empty
abbrev pub MayBeTight : Tariff → Placement → Half → Type 0
MayBeTight t d x = x.rows.items ≢ [] → (f : Facts) × AreOfWalls f d × IsTight t f d x

-- ---- cases
-- no pawn of c has just passed a square
abbrev pub HasNotPassed : State → Color → Type 0
HasNotPassed p c = (u : ℕ) → p.passed ≡ Some u → color_eq p.side (other c) ≡ false

-- p is such a case for c with j marks: it has the same men and rights of c
pub record IsCase (c : Color) (j : ℕ) (p : State) (a : Case) : Type 0 where
  pub men : (k : Kind) (s : ℕ) → s < 64 → Stands p.board c k s ↔ Stands a.board c k s
  pub king_side : holds p.rights c KingSide ≡ a.king_side
  pub queen_side : holds p.rights c QueenSide ≡ a.queen_side
  pub marks : j ≡ a.marks

-- two cases have the same rights, and as many marks
pub record AreSameClaims (a b : Case) : Type 0 where
  pub marks : a.marks ≡ b.marks
  pub king_side : a.king_side ≡ b.king_side
  pub queen_side : a.queen_side ≡ b.queen_side

-- whatever is such a case as b is one as a is
abbrev pub AreAlike : Color → Case → Case → Type 0
AreAlike c a b = (j : ℕ) (p : State) → IsCase c j p b → IsCase c j p a

-- ---- what is remembered
-- both list as many men, on the same squares in the same order
pub record AreOnSame (a b : Men) : Type 0 where
  pub count : a.count ≡ b.count
  pub squares : a.squares ≡ b.squares

-- in a case this is what the men of c cost at least, by every half of the tariff with these men of d
abbrev pub Tells : Tariff → Placement → Color → Men → Case → Option ℕ → Type 0
Tells t d c goals a v =
    (x : Half) → x.color ≡ c → AreOnSame x.goals goals → x.rows.items ≢ [] → MayBeTight t d x →
    (p : State) → HasFew p → HasNotPassed p c → IsCase c (marks_for x d p.board) p a → IsLeast (IsCost x d p) v

abbrev pub IsRemembered : Tariff → Placement → Color → Men → Remembered → Type 0
IsRemembered t d c goals r = r.is_told ≡ true → Tells t d c goals r.case r.value

-- costs of the colour of a half by a tariff are remembered for this owner
pub record IsOwner (o : Owner) (t : Bytes) (x : Half) : Type 0 where
  pub color : o.color ≡ x.color
  pub goals : AreOnSame o.goals x.goals
  pub tariff : o.tariff ≡ t

-- a half has a table, and no pawn of its colour has just passed a square
abbrev pub MayBeTold : Half → State → Type 0
MayBeTold x p = (x.rows.items ≢ []) × HasNotPassed p x.color
