-- How men are listed, and how the tables and sets of a ground are made.
use Rattle.std.specs.Prelude.{◌≡◌, ◌≢◌, ℕ, ◌+◌, ◌*◌, ◌<◌, ◌≤◌, ◌⊎◌, ◌||◌, true, List, get_or}
use Rattle.pg_board.specs.Bits.{has}
use Rattle.pg_board.specs.declared.man.Color.{Color}
use Rattle.pg_board.specs.declared.man.Color.TheVariants.{White}
use Rattle.pg_board.specs.declared.man.Kind.{Kind}
use Rattle.pg_board.specs.Men.{number_of_kind}
use Rattle.pg_board.specs.Placement.{Placement}
use Rattle.pg_board.specs.Squares.{file, rank}
use Rattle.pg_board.specs.SquareSets.{IsSetOf}
use Rattle.pg_position.specs.Attack.{Reaches}
use Rattle.pg_position.specs.Geometry.{IsForward}
use Rattle.pg_journeys.specs.inner.Sides.{square_at, kind_at}
use Rattle.pg_journeys.specs.declared.men.Men.{Men}

-- a man was added
pub record IsAdded (old : Men) (k : Kind) (s : ℕ) (new : Men) : Type 0 where
  pub count : new.count ≡ old.count + 1
  pub square : square_at new old.count ≡ s
  pub kind : kind_at new old.count ≡ k
  pub squares : (i : ℕ) → i < old.count → square_at new i ≡ square_at old i
  pub kinds : (i : ℕ) → i < old.count → kind_at new i ≡ kind_at old i

-- a man of the kind that goes by the board b, where free squares are empty and others are not, comes from r to s
abbrev pub GoesOn : Placement → ℕ → Kind → ℕ → ℕ → Type 0
GoesOn b free k r s = (has free r ≡ true) × (has free s ≡ true) × Reaches b White k r s

-- the steps of a kind from each free square were written into a table
pub record IsFilled (b : Placement) (free : ℕ) (k : Kind) (old new : List ℕ) : Type 0 where
  pub filled : (r : ℕ) → r < 64 → has free r ≡ true → IsSetOf (get_or new (number_of_kind k * 64 + r) 0) (GoesOn b free k r)
  pub kept : (i : ℕ) → ((r : ℕ) → r < 64 → has free r ≡ true → i ≢ number_of_kind k * 64 + r) → get_or new i 0 ≡ get_or old i 0

-- the steps of queens were written into a table: those of bishops and of rooks
pub record AreQueens (old new : List ℕ) : Type 0 where
  pub both : (r q : ℕ) → r < 64 → has (get_or new (256 + r) 0) q ≡ (has (get_or old (128 + r) 0) q || has (get_or old (192 + r) 0) q)
  pub kept : (i : ℕ) → (i < 256) ⊎ (320 ≤ i) → get_or new i 0 ≡ get_or old i 0

-- s is the square ahead of r, as a colour sees it
abbrev pub IsNext : Color → ℕ → ℕ → Type 0
IsNext c r s = (file r ≡ file s) × IsForward c 1 r s

-- s is free, and the square ahead of one of the set
abbrev pub IsAheadOf : Color → ℕ → ℕ → ℕ → Type 0
IsAheadOf c set free s = ((x : ℕ) × (x < 64) × (has set x ≡ true) × IsNext c x s) × (has free s ≡ true)

-- s is next to a square of the set on its rank, towards the h-file
abbrev pub IsEastOf : ℕ → ℕ → Type 0
IsEastOf set s = (x : ℕ) × (x < 64) × (has set x ≡ true) × (s ≡ x + 1) × (rank x ≡ rank s)

-- and towards the a-file
abbrev pub IsWestOf : ℕ → ℕ → Type 0
IsWestOf set s = (x : ℕ) × (x < 64) × (has set x ≡ true) × (x ≡ s + 1) × (rank x ≡ rank s)
