-- What the ground of a colour's steps holds, and the steps of its pawns.
use Rattle.std.specs.Prelude.{◌≡◌, ◌≢◌, ℕ, ◌+◌, ◌*◌, ◌<◌, ◌↔◌, true, false, List, get_or}
use Rattle.pg_board.specs.Bits.{has}
use Rattle.pg_board.specs.declared.man.Color.{Color}
use Rattle.pg_board.specs.declared.man.Kind.{Kind}
use Rattle.pg_board.specs.declared.man.Kind.TheVariants.{Pawn}
use Rattle.pg_board.specs.Men.{number_of_kind}
use Rattle.pg_board.specs.Squares.{file}
use Rattle.pg_board.specs.SquareSets.{IsSetOf}
use Rattle.pg_journeys.specs.Facts.{Facts}
use Rattle.pg_journeys.specs.Journeys.{IsLeg}
use Rattle.pg_journeys.specs.Known.{known}
use Rattle.pg_journeys.specs.lemmas.Turns.{leg}
use Rattle.pg_journeys.specs.declared.ground.Ground.{Ground}

-- the table has the steps under facts of each kind but a pawn from each square
abbrev pub IsTable : Facts → Color → List ℕ → Type 0
IsTable f c table =
    (k : Kind) (r : ℕ) → k ≢ Pawn → r < 64 → IsSetOf (get_or table (number_of_kind k * 64 + r) 0) (λ s. IsLeg f c (leg k r k s))

-- so it has for each colour, where these squares are still
abbrev pub HasSteps : ℕ → List ℕ → Type 0
HasSteps still table = (f : Facts) (c : Color) → ((s : ℕ) → s < 64 → f.still s ≡ has still s) → IsTable f c table

-- the ground holds the squares that are not still, and the steps
pub record IsGround (g : Ground) : Type 0 where
  pub free : (s : ℕ) → s < 64 → (has g.free s ≡ true) ↔ (has g.facts.still s ≡ false)
  pub steps : IsTable (known g.facts) g.color g.table

-- some square of the set has P with t
abbrev pub LedTo : (ℕ → ℕ → Type 0) → ℕ → ℕ → Type 0
LedTo P set t = (s : ℕ) × (s < 64) × (has set s ≡ true) × P s t

-- a pawn may step straight ahead from r to s
abbrev pub Pushes : Facts → Color → ℕ → ℕ → Type 0
Pushes f c r s = (j : Kind) × (IsLeg f c (leg Pawn r j s) × (file r ≡ file s))

-- a pawn may step by a capture from r to s
abbrev pub Captures : Facts → Color → ℕ → ℕ → Type 0
Captures f c r s = (j : Kind) × (IsLeg f c (leg Pawn r j s) × (file r ≢ file s))
