-- What the fates of a colour's men cost, as rows of costs hold it, and how much their paths may count, as rows of rooms do.
use Rattle.std.specs.Prelude.{◌≡◌, ◌≢◌, ℕ, ◌+◌, ◌<◌, ◌≤◌, ◌⊎◌, Bool, true, Option, List, [], get_or}
use Rattle.pg_board.specs.Bits.{has}
use Rattle.pg_board.specs.declared.man.Color.{Color}
use Rattle.pg_board.specs.declared.man.Kind.{Kind}
use Rattle.pg_board.specs.declared.man.Kind.TheVariants.{King}
use Rattle.pg_board.specs.Men.{number_of_kind, other}
use Rattle.pg_board.specs.Placement.{Placement}
use Rattle.pg_position.specs.declared.rights.Wing.{Wing}
use Rattle.pg_position.specs.Geometry.{IsBetween}
use Rattle.pg_position.specs.Squares.{king_home, rook_home}
use Rattle.pg_travel.specs.Origins.{counted}
use Rattle.pg_assignments.specs.declared.costs.Costs.{Costs}
use Rattle.pg_assignments.specs.Assignments.{cost, at2, IsAssignment, Below, sum_of}
use Rattle.pg_journeys.specs.Facts.{Facts}
use Rattle.pg_journeys.specs.Journeys.{HasPassed, IsPath, Leg}
use Rattle.pg_journeys.specs.PlanCosts.{AreCosts}
use Rattle.pg_journeys.specs.Known.{landing}
use Rattle.pg_journeys.specs.inner.Counts.{of_kind}
use Rattle.pg_journeys.specs.inner.Counting.{counts}
use Rattle.pg_journeys.specs.inner.Sides.{square_at, kind_at, facts_of, EndWithin}
use Rattle.pg_journeys.specs.declared.side.Side.{Side}
use Rattle.pg_journeys.specs.declared.plans.Walker.{Walker}
use Rattle.pg_journeys.specs.declared.rings.Rings.{Rings}
use Rattle.pg_journeys.specs.declared.rings.Runner.{Runner}

-- the squares of king and rook before they castle, and all between
abbrev pub IsOnSpan : Color → Wing → ℕ → Type 0
IsOnSpan c w q = (q ≡ king_home c) ⊎ ((q ≡ rook_home c w) ⊎ IsBetween (king_home c) q (rook_home c w))

-- a set of numbers has the kind of each man that a path makes of a man of kind k
abbrev pub MayBeIn : Kind → ℕ → Type 0
MayBeIn k kinds = (f : Facts) (c : Color) (r s : ℕ) (ls : List Leg) (j : Kind) → IsPath f c k r ls j s → has kinds (number_of_kind j) ≡ true

-- ---- counts to the ends
-- n is the least number, at most `most`, that has W; 255 where none has
abbrev pub IsCount : (ℕ → Type 0) → ℕ → ℕ → Type 0
IsCount W most n = ((n ≤ most) × W n × ((m : ℕ) → m < n → W m → ⊥)) ⊎ ((n ≡ 255) × (W most → ⊥))

-- the ring n has the man
abbrev pub InRing : Rings → Runner → ℕ → Type 0
InRing r m n = has (of_kind (get_or r.sets n []) m.kind) m.square ≡ true

-- n is what a path of the man to an end counts at least
abbrev pub IsCountTo : Side → ℕ → ℕ → Runner → ℕ → Type 0
IsCountTo x most e m n = IsCount (λ a. EndWithin x m.is_quiet e a m.kind m.square) most n

-- the man i of a side, and as whom a way counts him
abbrev pub runner_of : Side → Bool → Option Wing → ℕ → Runner
runner_of x quiet way i = record { is_quiet = quiet; kind = kind_at x.men i; square = counted x.terrain.color way (square_at x.men i) }

abbrev pub walker_of : Side → Bool → Option Wing → ℕ → Walker
walker_of x quiet way i = record { square = square_at x.men i; runner = runner_of x quiet way i }

-- ---- costs
-- captures of the other colour may land there
abbrev pub AreTheirs : Side → ℕ → Type 0
AreTheirs x u = has (landing x.terrain.facts (other x.terrain.color)) u ≡ true

-- n is what it costs that the man is captured: a king is never, and who has just passed a square takes no step
pub record IsFall (x : Side) (most : ℕ) (m : Walker) (n : ℕ) : Type 0 where
  pub king : m.runner.kind ≡ King → n ≡ 255
  pub other : m.runner.kind ≢ King →
      (((u : ℕ) × HasPassed x.position x.terrain.color m.square u × (u < 64) × AreTheirs x u) × (n ≡ 0))
      ⊎ (((u : ℕ) → HasPassed x.position x.terrain.color m.square u → AreTheirs x u → ⊥) × IsCountTo x most 16 m.runner n)

-- n is what column j costs the man: the first are the men of the diagram, the others are to be captured
pub record IsColumnCost (x : Side) (most : ℕ) (m : Walker) (j n : ℕ) : Type 0 where
  pub comes : j < x.goals.count → IsCountTo x most j m.runner n
  pub falls : x.goals.count ≤ j → IsFall x most m n

-- the first n columns of the man
abbrev pub IsCostRow : Side → ℕ → Walker → List ℕ → ℕ → Type 0
IsCostRow x most m row n = (j : ℕ) → j < n → IsColumnCost x most m j (get_or row j 0)

-- the rows of the first n men
abbrev pub AreCostRows : Side → Bool → Option Wing → ℕ → List (List ℕ) → ℕ → Type 0
AreCostRows x quiet way most rows n = (i : ℕ) → i < n → IsCostRow x most (walker_of x quiet way i) (get_or rows i []) x.men.count

-- the costs are those of the fates of the men in a way
abbrev pub AreCostsOf : Placement → Side → Bool → Option Wing → ℕ → Costs → Type 0
AreCostsOf d x quiet way most k =
    AreCosts (facts_of x) d x.position x.terrain.color way (counts (facts_of x) x.terrain.color quiet) (square_at x.men) (square_at x.goals)
    k.size x.goals.count (cost k) most

-- some assignment of all rows to as many columns is within a budget
abbrev pub HasTotalTo : Costs → ℕ → Type 0
HasTotalTo k most = (to : ℕ → ℕ) × IsAssignment (cost k) (Below k.size) k.size to × (sum_of (cost k) to k.size ≤ most)

-- ---- rooms
-- n is what the man i may count at column j, where `paid` counts pay for all: what the others leave
abbrev pub IsRoom : Costs → List (List ℕ) → ℕ → ℕ → ℕ → ℕ → Type 0
IsRoom k least paid i j n =
    ((paid < at2 least i j) × (n ≡ 255)) ⊎ ((at2 least i j ≤ paid) × (n + at2 least i j ≡ paid + cost k i j) × (n ≤ paid))

-- r is the greater of two rooms
pub record IsWider (a b r : ℕ) : Type 0 where
  pub one : (r ≡ a) ⊎ (r ≡ b)
  pub first : a < 255 → (r < 255) × (a ≤ r)
  pub second : b < 255 → (r < 255) × (b ≤ r)

-- the end of column j
abbrev pub EndsAt : ℕ → ℕ → ℕ → Type 0
EndsAt m j e = ((j < m) × (e ≡ j)) ⊎ ((m ≤ j) × (e ≡ 16))

-- the rooms of the man i at all ends, by the first n columns
pub record IsRoomRow (k : Costs) (least : List (List ℕ)) (paid m i : ℕ) (row : List ℕ) (n : ℕ) : Type 0 where
  pub small : (e : ℕ) → e < 17 → get_or row e 0 < 255 → get_or row e 0 ≤ paid
  pub some : (e : ℕ) → e < 17 → get_or row e 0 < 255 →
      (j : ℕ) × (j < n) × EndsAt m j e × (at2 least i j ≤ paid) × (get_or row e 0 + at2 least i j ≡ paid + cost k i j)
  pub widest : (e j : ℕ) → e < 17 → j < n → EndsAt m j e → at2 least i j ≤ paid →
      (get_or row e 0 < 255) × (paid + cost k i j ≤ get_or row e 0 + at2 least i j)

-- the rooms of the first n men
abbrev pub AreRoomRows : Costs → List (List ℕ) → ℕ → ℕ → List (List ℕ) → ℕ → Type 0
AreRoomRows k least paid m rooms n = (i : ℕ) → i < n → IsRoomRow k least paid m i (get_or rooms i []) k.size
