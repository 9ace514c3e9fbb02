-- What plans cost: rows are the men of a colour, columns the men of the diagram that they become, and after these, for
-- captured men, further columns.
use Rattle.std.specs.Prelude.{◌≡◌, ℕ, ◌+◌, ◌<◌, ◌≤◌, ◌↔◌, Option, List}
use Rattle.pg_board.specs.declared.man.Color.{Color}
use Rattle.pg_board.specs.declared.man.Kind.{Kind}
use Rattle.pg_board.specs.Tally.{total}
use Rattle.pg_board.specs.Placement.{Placement}
use Rattle.pg_position.specs.declared.rights.Wing.{Wing}
use Rattle.pg_position.specs.declared.state.State.{State}
use Rattle.pg_position.specs.Position.{Stands}
use Rattle.pg_travel.specs.Origins.{counted}
use Rattle.pg_assignments.specs.Assignments.{IsAssignment, Below}
use Rattle.pg_journeys.specs.Facts.{Facts}
use Rattle.pg_journeys.specs.Journeys.{Leg, Fate, Arrives, Falls, Meets, Journeys}
use Rattle.pg_journeys.specs.lemmas.DecidingPaths.{weigh}

-- xs 0 .. xs (n - 1) are the squares of the men of c on b, each once
pub record IsListing (b : Placement) (c : Color) (xs : ℕ → ℕ) (n : ℕ) : Type 0 where
  pub low : (i : ℕ) → i < n → xs i < 64
  pub stands : (i : ℕ) → i < n → (k : Kind) × Stands b c k (xs i)
  pub listed : (k : Kind) (s : ℕ) → s < 64 → Stands b c k s → (i : ℕ) × (i < n) × (xs i ≡ s)
  pub different : (i j : ℕ) → i < n → j < n → xs i ≡ xs j → i ≡ j

-- column j stands for this fate: each of the first m for the man of the diagram on its goal, the others for a capture
abbrev pub InColumn : (ℕ → ℕ) → ℕ → ℕ → Fate → Type 0
InColumn goals m j (Arrives t) = (j < m) × (goals j ≡ t)
InColumn goals m j (Falls u) = m ≤ j

-- the n men of c in p are listed, and the m men of d that they become; cost i j is the least that a path of the man i to a
-- fate of column j weighs, where that is at most `most`: some path weighs it, unless it is 255, and none less
pub record AreCosts (f : Facts) (d : Placement) (p : State) (c : Color) (way : Option Wing) (w : Leg → ℕ) (men goals : ℕ → ℕ) (n m : ℕ) (cost : ℕ → ℕ → ℕ) (most : ℕ) : Type 0 where
  pub rows : IsListing p.board c men n
  pub columns : IsListing d c goals m
  pub room : m ≤ n
  pub small : most < 255
  pub attained : (i j : ℕ) → i < n → j < n → cost i j < 255 →
      (o : Fate) × (ls : List Leg) × InColumn goals m j o
      × ((k : Kind) → Stands p.board c k (men i) → Meets f d p c k (men i) (counted c way (men i)) ls o) × (weigh w ls ≡ cost i j)
  pub least : (i j : ℕ) (o : Fate) (ls : List Leg) (k : Kind) → i < n → j < n → Stands p.board c k (men i) → InColumn goals m j o →
      Meets f d p c k (men i) (counted c way (men i)) ls o → weigh w ls ≤ most → cost i j ≤ weigh w ls

-- the law: who has a fate and a path in a plan within the budget has a column that stands for the fate, and the others'
-- columns are within what his path leaves
abbrev pub PlanToTotal : Type 0
PlanToTotal =
    (f : Facts) (d : Placement) (p : State) (c : Color) (way : Option Wing) (w : Leg → ℕ) (men goals : ℕ → ℕ) (n m : ℕ) (cost : ℕ → ℕ → ℕ) (most : ℕ) →
    AreCosts f d p c way w men goals n m cost most → (g : Journeys f d p c way) → total (λ s. weigh w (g.path s)) 64 ≤ most → (i : ℕ) → i < n →
    (j : ℕ) × (j < n) × InColumn goals m j (g.fate (men i))
    × ((x : ℕ) × ((to : ℕ → ℕ) × IsAssignment cost (Below n) n to × (to i ≡ j) × (x ≡ total (λ a. cost a (to a)) n))
    × (x + weigh w (g.path (men i)) ≤ most + cost i j))

-- the law: whose path to a fate in his column is within what an assignment's other columns leave has a plan with both
abbrev pub TotalToPlan : Type 0
TotalToPlan =
    (f : Facts) (d : Placement) (p : State) (c : Color) (way : Option Wing) (w : Leg → ℕ) (men goals : ℕ → ℕ) (n m : ℕ) (cost : ℕ → ℕ → ℕ) (most : ℕ) →
    AreCosts f d p c way w men goals n m cost most → (to : ℕ → ℕ) → IsAssignment cost (Below n) n to → (i : ℕ) → i < n → (o : Fate) (ls : List Leg) → InColumn goals m (to i) o →
    ((k : Kind) → Stands p.board c k (men i) → Meets f d p c k (men i) (counted c way (men i)) ls o) →
    total (λ a. cost a (to a)) n + weigh w ls ≤ most + cost i (to i) →
    (g : Journeys f d p c way) × (total (λ s. weigh w (g.path s)) 64 ≤ most) × (g.fate (men i) ≡ o) × (g.path (men i) ≡ ls)

-- the law: there is a plan within the budget just where there is an assignment within it
abbrev pub PlansAreTotals : Type 0
PlansAreTotals =
    (f : Facts) (d : Placement) (p : State) (c : Color) (way : Option Wing) (w : Leg → ℕ) (men goals : ℕ → ℕ) (n m : ℕ) (cost : ℕ → ℕ → ℕ) (most : ℕ) →
    AreCosts f d p c way w men goals n m cost most →
    ((g : Journeys f d p c way) × (total (λ s. weigh w (g.path s)) 64 ≤ most)) ↔ ((to : ℕ → ℕ) × IsAssignment cost (Below n) n to × (total (λ a. cost a (to a)) n ≤ most))
