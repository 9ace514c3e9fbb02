-- What plans of a way count at least, who is reached, and the first colour that has no way alive by facts.
use Rattle.std.specs.Prelude.{◌≡◌, ℕ, ◌+◌, ◌<◌, ◌≤◌, Bool, Option, Some, None, MatchOption, cond, leb, List, length}
use Rattle.pg_board.specs.declared.man.Color.{Color}
use Rattle.pg_board.specs.declared.man.Color.TheVariants.{White, Black}
use Rattle.pg_board.specs.Placement.{Placement}
use Rattle.pg_position.specs.declared.rights.Wing.{Wing}
use Rattle.pg_position.specs.declared.state.State.{State}
use Rattle.pg_travel.specs.Origins.{counted}
use Rattle.pg_journeys.specs.Journeys.{Leg, IsPath, IsWayUnder}
use Rattle.pg_journeys.specs.Known.{known}
use Rattle.pg_journeys.specs.Plans.{IsAlive}
use Rattle.pg_journeys.specs.inner.Showing.{IsDead}
use Rattle.pg_journeys.specs.inner.Sides.{facts_of, square_at, kind_at, JourneysOf, IsPaidBy}
use Rattle.pg_journeys.specs.declared.facts.Facts.{Facts as FactSets}
use Rattle.pg_journeys.specs.declared.needs.DeadColor.{DeadColor}
use Rattle.pg_journeys.specs.declared.side.Side.{Side}

-- a total of paths and what a way counts beside them, where both together are at most 199
unfoldable pub counted_with : Option ℕ → ℕ → Option ℕ
counted_with None charge = None
counted_with (Some total) charge = cond (leb (total + charge) 199) (Some (total + charge)) None

-- n counts, at most 199, pay for some plan of an open way
abbrev pub PayInWay : Placement → Side → Bool → Option Wing → ℕ → Type 0
PayInWay d x quiet way n =
    (n ≤ 199) × IsWayUnder (facts_of x) x.position x.terrain.color way × (g : JourneysOf d x way) × IsPaidBy d x quiet way n g

-- n counts pay for some plan of some way
abbrev pub PayInSome : Placement → Side → Bool → ℕ → Type 0
PayInSome d x quiet n = (way : Option Wing) × PayInWay d x quiet way n

-- in an open way the man e of the diagram is reached by a path of some man
abbrev pub IsReachedIn : Side → Option Wing → ℕ → Type 0
IsReachedIn x way e =
    IsWayUnder (facts_of x) x.position x.terrain.color way × (i : ℕ) × (i < x.men.count) × (ls : List Leg)
    × IsPath (facts_of x) x.terrain.color (kind_at x.men i) (counted x.terrain.color way (square_at x.men i)) ls (kind_at x.goals e) (square_at x.goals e)
    × (length ls ≤ 199)

-- in some way
abbrev pub IsReachedOf : Side → ℕ → Type 0
IsReachedOf x e = (way : Option Wing) × IsReachedIn x way e

-- the square of a man of the diagram who is not reached; none where each is
abbrev pub IsUnreached : Side → Option ℕ → Type 0
IsUnreached x o =
    MatchOption o ((e : ℕ) → e < x.goals.count → IsReachedOf x e) (λ t. (e : ℕ) × (e < x.goals.count) × (square_at x.goals e ≡ t) × ¬ IsReachedOf x e)

-- each colour has a way alive
abbrev pub BothAlive : FactSets → Placement → State → ℕ → Type 0
BothAlive f d p k = (c : Color) → (way : Option Wing) × IsAlive (known f) d p k c way

-- the first colour that has no way alive by the facts f
pub record IsFirstBy (f : FactSets) (d : Placement) (p : State) (k : ℕ) (x : DeadColor) : Type 0 where
  pub same : x.facts ≡ f
  pub dead : IsDead (known f) d p k x.color
  pub white : x.color ≡ Black → (way : Option Wing) × IsAlive (known f) d p k White way

-- none where each has one
abbrev pub AreFirstBy : FactSets → Placement → State → ℕ → Option DeadColor → Type 0
AreFirstBy f d p k o = MatchOption o (BothAlive f d p k) (λ x. IsFirstBy f d p k x)
