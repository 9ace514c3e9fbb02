-- What a number of plies pays for.
use Rattle.std.specs.Prelude.{◌≡◌, ℕ, ◌<◌, ◌≤◌, Bool, true, false, Option, Some, None}
use Rattle.pg_board.specs.declared.man.Color.{Color}
use Rattle.pg_board.specs.Bits.{has}
use Rattle.pg_board.specs.Placement.{Placement}
use Rattle.pg_position.specs.declared.rights.Wing.{Wing}
use Rattle.pg_position.specs.declared.state.State.{State}
use Rattle.pg_travel.specs.Origins.{IsWayOf}
use Rattle.pg_travel.specs.Needs.{IsValue, ValueIs, HeldIs}
use Rattle.pg_travel.specs.inner.Costs.{cost, SumIs}

-- off the set no man of d costs anything
unfoldable pub CostsOnly : Placement → Placement → Color → Option Wing → ℕ → Type 0
CostsOnly b d c way set = (q : ℕ) → q < 64 → has set q ≡ false → cost b d c way q ≡ 0

-- on each square of the set a man of d costs something
unfoldable pub CostsEach : Placement → Placement → Color → Option Wing → ℕ → Type 0
CostsEach b d c way set = (q : ℕ) → q < 64 → has set q ≡ true → 1 ≤ cost b d c way q

-- the sum, or that it is none or above the limit
abbrev pub SumWithin : Placement → Placement → Color → Option Wing → ℕ → Option ℕ → Type 0
SumWithin b d c way limit None = (v : ℕ) → SumIs b d c way (Some v) → limit < v
SumWithin b d c way limit (Some v) = SumIs b d c way (Some v)

-- no value at most the limit
abbrev pub IsAbove : ℕ → Option ℕ → Type 0
IsAbove limit None = Unit {0}
IsAbove limit (Some v) = limit < v

-- the way has a value that is paid for, or what value it has is above the limit
abbrev pub PaysIs : State → Placement → Color → Option Wing → ℕ → Bool → Type 0
PaysIs p d c way limit true = (v : ℕ) × IsValue d p c way v × (v ≤ limit)
PaysIs p d c way limit false = (o : Option ℕ) × ValueIs d p c way o × IsAbove limit o

-- the same of castling by a right
abbrev pub CastledIs : State → Placement → Color → Wing → ℕ → Bool → Type 0
CastledIs p d c w limit true = (v : ℕ) × IsWayOf p c (Some w) × IsValue d p c (Some w) v × (v ≤ limit)
CastledIs p d c w limit false = (o : Option ℕ) × HeldIs d p c (Some w) o × IsAbove limit o
