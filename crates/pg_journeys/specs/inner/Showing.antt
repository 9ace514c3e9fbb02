-- What the plans of a colour show, way by way.
use Rattle.std.specs.Prelude.{◌≡◌, ◌≢◌, ℕ, ◌+◌, ◌<◌, ◌⊎◌, ◌↔◌, ◌||◌, Bool, true, false, Option, MatchOption, List, [], ◌∷◌, get_or}
use Rattle.pg_board.specs.Bits.{has}
use Rattle.pg_board.specs.declared.man.Color.{Color}
use Rattle.pg_board.specs.declared.man.Kind.{Kind}
use Rattle.pg_board.specs.Placement.{Placement}
use Rattle.pg_board.specs.SquareSets.{IsSetOf, HasNoneFrom}
use Rattle.pg_position.specs.declared.rights.Wing.{Wing}
use Rattle.pg_position.specs.declared.state.State.{State}
use Rattle.pg_position.specs.Position.{Stands}
use Rattle.pg_captures.specs.Owed.{plies_left, victims}
use Rattle.pg_travel.specs.Origins.{counted}
use Rattle.pg_journeys.specs.Facts.{Facts}
use Rattle.pg_journeys.specs.Known.{landing}
use Rattle.pg_journeys.specs.Journeys.{Falls, Journeys, HasTake}
use Rattle.pg_journeys.specs.Plans.{Measure, Moves, QuietMoves, IsPaid, IsAlive}
use Rattle.pg_journeys.specs.Narrowing.{StaysIn, PlansToTake, PlansToFall}
use Rattle.pg_journeys.specs.declared.men.Men.{Men}
use Rattle.pg_journeys.specs.declared.side.Side.{Side}
use Rattle.pg_journeys.specs.declared.narrowing.Deeds.{Deeds}
use Rattle.pg_journeys.specs.declared.shown.Shown.{Shown}
use Rattle.pg_journeys.specs.declared.measured.Measured.{Measured}
use Rattle.pg_journeys.specs.inner.Sides.{facts_of, square_at, AreRooms, IsPaidBy, IsSide, JourneysOf}

-- whether only quiet steps count
abbrev pub is_quiet : Measure → Bool
is_quiet Moves = false
is_quiet QuietMoves = true

-- what paths of c may count by a measure: its share of the next k plies, in quiet moves less the captures that it owes
abbrev pub IsBudget : Placement → State → ℕ → Color → Measure → ℕ → Type 0
IsBudget d p k c Moves n = n ≡ plies_left p.side c k
IsBudget d p k c QuietMoves n = n + victims c p.board ≡ plies_left p.side c k + victims c d

-- one is measured in moves, the other in quiet moves, of one side
pub record ArePaired (m q : Measured) : Type 0 where
  pub side : q.side.now ≡ m.side.now
  pub moves : m.is_quiet ≡ false
  pub quiet : q.is_quiet ≡ true

-- one measure tells both: it is the other, or no capture may land
abbrev pub IsSameBy : Side → Bool → Bool → Type 0
IsSameBy x q r = (q ≡ r) ⊎ HasNoneFrom (landing x.terrain.facts x.terrain.color) 0

-- the rooms of a side's men, whatever the diagram, by a measure and by each that is the same; some plan is paid for
abbrev pub HasRooms : Side → Bool → Option Wing → ℕ → List (List ℕ) → Type 0
HasRooms x quiet way most rooms =
    (d : Placement) (same : Bool) → IsSide d x → IsSameBy x quiet same →
    AreRooms d x same way most rooms × ((g : JourneysOf d x way) × IsPaidBy d x same way most g)

-- what paths may count by both measures
pub record AreBudgets (d : Placement) (x : Side) (k : ℕ) (moves quiet : ℕ) : Type 0 where
  pub all : IsBudget d x.position k x.terrain.color Moves moves
  pub few : IsBudget d x.position k x.terrain.color QuietMoves quiet

-- both measures may count as much, and no capture may land: each step is a quiet move
pub record IsOneMeasure (x : Side) (most fewest : ℕ) : Type 0 where
  pub same : most ≡ fewest
  pub none : HasNoneFrom (landing x.terrain.facts x.terrain.color) 0

-- the man i does not start where he stands, or by both measures he changes by some one end
abbrev pub MayChange : Color → Men → Option Wing → Deeds → Deeds → ℕ → Type 0
MayChange c men way moves quiet i =
    (counted c way (square_at men i) ≢ square_at men i)
    ⊎ ((e : ℕ) × (e < 17) × (has (get_or moves.ends i 0) e ≡ true) × (has (get_or quiet.ends i 0) e ≡ true))

-- ---- one way
-- some plan of the way by this measure has a man step to q by what may be a capture
abbrev pub TakesIn : Facts → Placement → State → ℕ → Color → Option Wing → Measure → ℕ → Type 0
TakesIn f d p k c way u q =
    (g : Journeys f d p c way) × IsPaid f d p k c way u g
    × ((i : Kind) × (s : ℕ) × (s < 64) × Stands p.board c i s × HasTake f c q (g.path s))

-- some plan of the way by this measure has a man captured on q
abbrev pub FallsIn : Facts → Placement → State → ℕ → Color → Option Wing → Measure → ℕ → Type 0
FallsIn f d p k c way u q =
    (g : Journeys f d p c way) × IsPaid f d p k c way u g
    × ((i : Kind) × (s : ℕ) × (s < 64) × Stands p.board c i s × (g.fate s ≡ Falls q))

-- the squares where captures land, and where men are captured, by a measure
abbrev pub lands_by : Shown → Measure → ℕ
lands_by a Moves = a.lands
lands_by a QuietMoves = a.quiet_lands

abbrev pub falls_by : Shown → Measure → ℕ
falls_by a Moves = a.falls
falls_by a QuietMoves = a.quiet_falls

-- no square of a capture is shown
pub record ShowsNone (a : Shown) : Type 0 where
  pub lands : (u : Measure) (q : ℕ) → has (lands_by a u) q ≡ false
  pub falls : (u : Measure) (q : ℕ) → has (falls_by a u) q ≡ false

-- the set n has each square of P, and no other that the set found has not
abbrev pub IsWithFound : (ℕ → Type 0) → ℕ → ℕ → Type 0
IsWithFound P found n = (q : ℕ) → q < 64 → (P q → has n q ≡ true) × (has n q ≡ true → (has found q ≡ true) ⊎ P q)

-- what the plans of a way show, maybe with squares of captures that were found before
pub record ShowsWay (f : Facts) (d : Placement) (p : State) (k : ℕ) (c : Color) (way : Option Wing) (found a : Shown) : Type 0 where
  pub lands : (u : Measure) → IsWithFound (TakesIn f d p k c way u) (lands_by found u) (lands_by a u)
  pub falls : (u : Measure) → IsWithFound (FallsIn f d p k c way u) (falls_by found u) (falls_by a u)
  pub stays : (j : Kind) (s : ℕ) → s < 64 → Stands p.board c j s → (has a.changed s ≡ false) ↔ StaysIn f d p k c way s

-- what either shows
pub record IsJoined (a b r : Shown) : Type 0 where
  pub changed : (q : ℕ) → has r.changed q ≡ (has a.changed q || has b.changed q)
  pub lands : (q : ℕ) → has r.lands q ≡ (has a.lands q || has b.lands q)
  pub quiet_lands : (q : ℕ) → has r.quiet_lands q ≡ (has a.quiet_lands q || has b.quiet_lands q)
  pub falls : (q : ℕ) → has r.falls q ≡ (has a.falls q || has b.falls q)
  pub quiet_falls : (q : ℕ) → has r.quiet_falls q ≡ (has a.quiet_falls q || has b.quiet_falls q)

-- ---- some ways
-- one of these ways
abbrev pub IsOneOf : Option Wing → List (Option Wing) → Type 0
IsOneOf w [] = ⊥
IsOneOf w (v ∷ vs) = (w ≡ v) ⊎ IsOneOf w vs

-- what the plans of those of these ways show that are alive
pub record ShowsWays (f : Facts) (d : Placement) (p : State) (k : ℕ) (c : Color) (ways : List (Option Wing)) (a : Shown) : Type 0 where
  pub alive : (way : Option Wing) × IsOneOf way ways × IsAlive f d p k c way
  pub lands : (u : Measure) → IsSetOf (lands_by a u) (λ q. (way : Option Wing) × IsOneOf way ways × IsAlive f d p k c way × TakesIn f d p k c way u q)
  pub falls : (u : Measure) → IsSetOf (falls_by a u) (λ q. (way : Option Wing) × IsOneOf way ways × IsAlive f d p k c way × FallsIn f d p k c way u q)
  pub stays : (j : Kind) (s : ℕ) → s < 64 → Stands p.board c j s →
      (has a.changed s ≡ false) ↔ ((way : Option Wing) → IsOneOf way ways → IsAlive f d p k c way → StaysIn f d p k c way s)

-- none of these ways is alive
abbrev pub NoneAlive : Facts → Placement → State → ℕ → Color → List (Option Wing) → Type 0
NoneAlive f d p k c ways = (way : Option Wing) → IsOneOf way ways → ¬ IsAlive f d p k c way

-- what these ways show: none where none of them is alive
abbrev pub ShowsAmong : Facts → Placement → State → ℕ → Color → List (Option Wing) → Option Shown → Type 0
ShowsAmong f d p k c ways o = MatchOption o (NoneAlive f d p k c ways) (λ a. ShowsWays f d p k c ways a)

-- ---- all ways
-- a colour has no way alive
abbrev pub IsDead : Facts → Placement → State → ℕ → Color → Type 0
IsDead f d p k c = (way : Option Wing) → ¬ IsAlive f d p k c way

-- what the plans of a colour show that has a way alive
pub record Shows (f : Facts) (d : Placement) (p : State) (k : ℕ) (c : Color) (a : Shown) : Type 0 where
  pub alive : (way : Option Wing) × IsAlive f d p k c way
  pub lands : (u : Measure) → IsSetOf (lands_by a u) (PlansToTake f d p k c u)
  pub falls : (u : Measure) → IsSetOf (falls_by a u) (PlansToFall f d p k c u)
  pub stays : (j : Kind) (s : ℕ) → s < 64 → Stands p.board c j s →
      (has a.changed s ≡ false) ↔ ((way : Option Wing) → IsAlive f d p k c way → StaysIn f d p k c way s)

-- what the plans of a side show, whatever the diagram, where paths may count `most` in moves and `fewest` in quiet moves: none where no way is alive
abbrev pub IsShownBy : Side → ℕ → ℕ → Option Shown → Type 0
IsShownBy x most fewest o =
    (d : Placement) (k : ℕ) → IsSide d x → AreBudgets d x k most fewest →
    MatchOption o (IsDead (facts_of x) d x.position k x.terrain.color) (λ a. Shows (facts_of x) d x.position k x.terrain.color a)

-- the same of a side: a way is alive, what the plans of a way show, and those of some ways
abbrev pub IsAliveFor : Placement → Side → ℕ → Option Wing → Type 0
IsAliveFor d x k way = IsAlive (facts_of x) d x.position k x.terrain.color way

abbrev pub ShowsWayFor : Placement → Side → ℕ → Option Wing → Shown → Shown → Type 0
ShowsWayFor d x k way found a = ShowsWay (facts_of x) d x.position k x.terrain.color way found a

abbrev pub ShowsAmongFor : Placement → Side → ℕ → List (Option Wing) → Option Shown → Type 0
ShowsAmongFor d x k ways o = ShowsAmong (facts_of x) d x.position k x.terrain.color ways o
