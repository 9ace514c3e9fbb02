-- The value of a way as a number.
use Rattle.std.specs.Prelude.{◌≡◌, ℕ, ◌+◌, ◌<◌, ◌≤◌, ◌⊎◌, cond, Option, Some, None}
use Rattle.pg_board.specs.declared.man.Color.{Color}
use Rattle.pg_board.specs.declared.man.Kind.{Kind}
use Rattle.pg_position.specs.declared.rights.Wing.{Wing}
use Rattle.pg_board.specs.declared.man.Man.{Man}
use Rattle.pg_board.specs.Men.{color_eq, is_man}
use Rattle.pg_board.specs.Placement.{Placement, get}
use Rattle.pg_position.specs.declared.state.State.{State}
use Rattle.pg_travel.specs.Origins.{counted, charge}
use Rattle.pg_board.specs.Tally.{total}
use Rattle.pg_travel.specs.inner.Formulas.{least_of, distance_of}
use Rattle.pg_travel.specs.Needs.{ValueIs}

-- from the man on o, counted where the way counts it; 64 where none of c stands there or there is no walk
abbrev pub reach_of : Color → Option Wing → Kind → ℕ → ℕ → Option Man → ℕ
reach_of c way j t o None = 64
reach_of c way j t o (Some m) = cond (color_eq c m.color) (distance_of m.color j m.kind (counted c way o) t) 64

-- the least over all squares
unfoldable pub nearest : Placement → Color → Option Wing → Kind → ℕ → ℕ
nearest b c way j t = least_of (λ o. reach_of c way j t o (get b o)) 64

-- from one square, where this man stands; 64 where it does not or there is no walk
abbrev pub reach_from : Man → Option Wing → Kind → ℕ → ℕ → Option Man → ℕ
reach_from m way j t o here = cond (is_man m here) (distance_of m.color j m.kind (counted m.color way o) t) 64

-- the least over the squares where this man stands
unfoldable pub nearest_man : Placement → Man → Option Wing → Kind → ℕ → ℕ
nearest_man b m way j t = least_of (λ o. reach_from m way j t o (get b o)) 64

-- those that stand before the square first or not before the square past are no nearer than best
unfoldable pub BeyondFar : Placement → Man → Option Wing → Kind → ℕ → ℕ → ℕ → ℕ → Type 0
BeyondFar b m way j t best first past = (first ≤ 64) × ((o : ℕ) → o < 64 → (o < first) ⊎ (past ≤ o) → best ≤ reach_from m way j t o (get b o))

-- what a man of d costs; nothing where none of c stands there
abbrev pub cost_of : Placement → Color → Option Wing → ℕ → Option Man → ℕ
cost_of b c way t None = 0
cost_of b c way t (Some m) = cond (color_eq c m.color) (nearest b c way m.kind t) 0

unfoldable pub cost : Placement → Placement → Color → Option Wing → ℕ → ℕ
cost b d c way t = cost_of b c way t (get d t)

abbrev pub SumIs : Placement → Placement → Color → Option Wing → Option ℕ → Type 0
SumIs b d c way None = (t : ℕ) × (t < 64) × (cost b d c way t ≡ 64)
SumIs b d c way (Some v) = ((t : ℕ) → t < 64 → cost b d c way t < 64) × (v ≡ charge way + total (cost b d c way) 64)

abbrev pub SumLaw : Type 0
SumLaw = (p : State) (d : Placement) (c : Color) (way : Option Wing) (o : Option ℕ) → SumIs p.board d c way o → ValueIs d p c way o

-- the most that a value may be beside the best so far: no value is above 64 walks of 63 steps and a charge
abbrev pub most_of : Option ℕ → ℕ
most_of None = 4033
most_of (Some n) = n
