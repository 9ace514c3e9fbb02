-- What the plans of a way have by a measure.
use Rattle.std.specs.Prelude.{◌≡◌, ℕ, ◌<◌, ◌⊎◌, ◌↔◌, Bool, true, Option, get_or, []}
use Rattle.pg_board.specs.Bits.{has}
use Rattle.pg_board.specs.SquareSets.{IsSetOf}
use Rattle.pg_board.specs.Placement.{Placement}
use Rattle.pg_position.specs.declared.rights.Wing.{Wing}
use Rattle.pg_journeys.specs.Journeys.{Arrives, Falls, HasTake}
use Rattle.pg_journeys.specs.inner.Sides.{facts_of, square_at, InEnd, IsSide, JourneysOf, IsPaidBy}
use Rattle.pg_journeys.specs.declared.side.Side.{Side}
use Rattle.pg_journeys.specs.declared.narrowing.Deeds.{Deeds}

-- some plan has a step to q that may be a capture
abbrev pub Lands : Placement → Side → Bool → Option Wing → ℕ → ℕ → Type 0
Lands d x quiet way most q =
    (g : JourneysOf d x way) × IsPaidBy d x quiet way most g
    × ((i : ℕ) × (i < x.men.count) × HasTake (facts_of x) x.terrain.color q (g.path (square_at x.men i)))

-- some plan has a man captured on q
abbrev pub FallsOn : Placement → Side → Bool → Option Wing → ℕ → ℕ → Type 0
FallsOn d x quiet way most q =
    (g : JourneysOf d x way) × IsPaidBy d x quiet way most g
    × ((i : ℕ) × (i < x.men.count) × (g.fate (square_at x.men i) ≡ Falls q))

-- some plan has the man i at an end, and he does not stay
abbrev pub Changes : Placement → Side → Bool → Option Wing → ℕ → ℕ → ℕ → Type 0
Changes d x quiet way most i e =
    (g : JourneysOf d x way) × IsPaidBy d x quiet way most g × InEnd x.goals e (g.fate (square_at x.men i))
    × ¬ ((g.fate (square_at x.men i) ≡ Arrives (square_at x.men i)) × (g.path (square_at x.men i) ≡ []))

-- what is told of a way, beside squares where captures land and men fall that were found before
pub record AreDeeds (d : Placement) (x : Side) (quiet : Bool) (way : Option Wing) (most landed fallen : ℕ) (a : Deeds) : Type 0 where
  pub lands : IsSetOf a.lands (λ q. (has landed q ≡ true) ⊎ Lands d x quiet way most q)
  pub falls : IsSetOf a.falls (λ q. (has fallen q ≡ true) ⊎ FallsOn d x quiet way most q)
  pub ends : (i e : ℕ) → i < x.men.count → e < 17 → (has (get_or a.ends i 0) e ≡ true) ↔ Changes d x quiet way most i e

-- ---- whatever the diagram of a side
-- b tells whether some plan of a way is paid for
abbrev pub IsPaidFor : Side → Bool → Option Wing → ℕ → Bool → Type 0
IsPaidFor x quiet way most b = (d : Placement) → IsSide d x → (b ≡ true) ↔ ((g : JourneysOf d x way) × IsPaidBy d x quiet way most g)

-- no plan of a way is paid for
abbrev pub HasNoPlan : Side → Bool → Option Wing → ℕ → Type 0
HasNoPlan x quiet way most = (d : Placement) → IsSide d x → (g : JourneysOf d x way) → IsPaidBy d x quiet way most g → ⊥

-- what is told of a way
abbrev pub HasDeeds : Side → Bool → Option Wing → ℕ → ℕ → ℕ → Deeds → Type 0
HasDeeds x quiet way most landed fallen a = (d : Placement) → IsSide d x → AreDeeds d x quiet way most landed fallen a
