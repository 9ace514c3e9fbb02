-- Distances of an origin map, and the need of a colour.
use Rattle.std.specs.Prelude.{◌≡◌, ℕ, ◌+◌, ◌<◌, ◌≤◌, min, Option, Some, None, List, length, ◌⊎◌}
use Rattle.pg_board.specs.declared.man.Color.{Color}
use Rattle.pg_board.specs.declared.man.Kind.{Kind}
use Rattle.pg_position.specs.declared.rights.Wing.{Wing}
use Rattle.pg_board.specs.Placement.{Placement}
use Rattle.pg_position.specs.declared.state.State.{State}
use Rattle.pg_position.specs.declared.moves.Move.{Move}
use Rattle.pg_position.specs.Position.{Stands, IsPosition}
use Rattle.pg_travel.specs.Walks.{Walk, IsLeast, IsDistance}
use Rattle.pg_position.specs.Game.{IsGame, Barren}
use Rattle.pg_captures.specs.Counting.{any_man, sum_over}
use Rattle.pg_captures.specs.Owed.{plies_left}
use Rattle.pg_travel.specs.Origins.{IsWayOf, charge, counted, Origins}

-- the walks of an origin map are shortest
abbrev pub TakesDistances : (d : Placement) (p : State) (c : Color) (way : Option Wing) → Origins d p c way → Type 0
TakesDistances d p c way o = (j : Kind) (t : ℕ) → t < 64 → Stands d c j t → IsDistance c (o.kind t) (counted c way (o.from t)) j t (o.plies t)

-- for each game and each colour there are a way and an origin map whose charge and sum of distances the colour's plies pay for
abbrev pub DistancesLaw : Type 0
DistancesLaw =
    (p : State) (ms : List Move) (q : State) (c : Color) → IsPosition p → IsGame p ms q →
    (way : Option Wing) × IsWayOf p c way × ((o : Origins q.board p c way)
    × TakesDistances q.board p c way o × (charge way + sum_over c any_man q.board o.plies ≤ plies_left p.side c (length ms)))

-- some man of c comes in n free steps to be of kind j on t, the castled king and rook counted where they castled to
abbrev pub Comes : State → Color → Option Wing → Kind → ℕ → ℕ → Type 0
Comes p c way j t n = (o : ℕ) × (k : Kind) × (o < 64) × Stands p.board c k o × Walk c k (counted c way o) n j t

-- the value of a way: its charge and, over c's men of d, the least distance from a man of c
abbrev pub IsValue : Placement → State → Color → Option Wing → ℕ → Type 0
IsValue d p c way v =
    (least : ℕ → ℕ) × ((j : Kind) (t : ℕ) → t < 64 → Stands d c j t → IsLeast (Comes p c way j t) (least t))
    × (v ≡ charge way + sum_over c any_man d least)

-- the value of a way, if it has one
abbrev pub ValueIs : Placement → State → Color → Option Wing → Option ℕ → Type 0
ValueIs d p c way None = (v : ℕ) → ¬ IsValue d p c way v
ValueIs d p c way (Some v) = IsValue d p c way v

-- the same of a way of c in p, if it is one
abbrev pub HeldIs : Placement → State → Color → Option Wing → Option ℕ → Type 0
HeldIs d p c way None = (v : ℕ) → IsWayOf p c way → ¬ IsValue d p c way v
HeldIs d p c way (Some v) = IsWayOf p c way × IsValue d p c way v

abbrev pub lesser : Option ℕ → Option ℕ → Option ℕ
lesser None b = b
lesser (Some x) None = Some x
lesser (Some x) (Some y) = Some (min x y)

-- r is as good beside the best so far as the value of castling by a right of c in p, if it is held
abbrev pub HeldBeside : Placement → State → Color → Wing → Option ℕ → Option ℕ → Type 0
HeldBeside d p c w best r = (o : Option ℕ) × HeldIs d p c (Some w) o × (lesser best r ≡ lesser best o)

-- v is the value of a way of c
abbrev pub HasValue : Placement → State → Color → ℕ → Type 0
HasValue d p c v = (way : Option Wing) × IsWayOf p c way × IsValue d p c way v

-- the need: the least value of a way
abbrev pub IsNeed : Placement → State → Color → ℕ → Type 0
IsNeed d p c n = IsLeast (HasValue d p c) n

-- the need, or that no way has a value
abbrev pub NeedIs : Placement → State → Color → Option ℕ → Type 0
NeedIs d p c None = (v : ℕ) → ¬ HasValue d p c v
NeedIs d p c (Some n) = IsNeed d p c n

-- no way has a value, or the need is above c's plies left
abbrev pub TravelTest : Placement → State → ℕ → Color → Type 0
TravelTest d p k c = ((v : ℕ) → ¬ HasValue d p c v) ⊎ ((n : ℕ) × IsNeed d p c n × (plies_left p.side c k < n))

-- the travel test: that of either colour
unfoldable pub TravelHolds : Placement → State → ℕ → Type 0
TravelHolds d p k = (c : Color) × TravelTest d p k c

-- where the test of a colour holds, no game of k plies ends on d
abbrev pub TravelLaw : Type 0
TravelLaw = (p : State) (d : Placement) (c : Color) (k : ℕ) → IsPosition p → TravelTest d p k c → Barren d p k
