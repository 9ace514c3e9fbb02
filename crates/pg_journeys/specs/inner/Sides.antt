-- The men of a colour in a position and in a diagram, what their fates count, and which of them plans have.
use Rattle.std.specs.Prelude.{◌≡◌, ℕ, ◌+◌, ◌<◌, ◌≤◌, ◌⊎◌, Bool, true, false, Option, List, [], get_or}
use Rattle.pg_board.specs.declared.man.Kind.{Kind}
use Rattle.pg_board.specs.Men.{other}
use Rattle.pg_board.specs.Tally.{total}
use Rattle.pg_board.specs.Placement.{Placement}
use Rattle.pg_position.specs.declared.rights.Wing.{Wing}
use Rattle.pg_travel.specs.Origins.{charge, counted}
use Rattle.pg_journeys.specs.Facts.{Facts}
use Rattle.pg_journeys.specs.Journeys.{Leg, Fate, Arrives, Falls, IsPath, Meets, Journeys}
use Rattle.pg_journeys.specs.Known.{known}
use Rattle.pg_journeys.specs.lemmas.DecidingPaths.{weigh}
use Rattle.pg_journeys.specs.inner.Counting.{counts}
use Rattle.pg_journeys.specs.inner.Rings.{AreRings}
pub use Rattle.pg_journeys.specs.inner.SideParts.{square_at, kind_at, AreMen, AreParts}
use Rattle.pg_journeys.specs.declared.ground.Ground.{Ground}
use Rattle.pg_journeys.specs.declared.men.Men.{Men}
use Rattle.pg_journeys.specs.declared.side.Side.{Side}
use Rattle.pg_journeys.specs.declared.rings.Rings.{Rings}

-- the facts, and the colour, of a side
abbrev pub facts_of : Side → Facts
facts_of x = known x.terrain.facts

-- a side of a position for the diagram d
abbrev pub IsSide : Placement → Side → Type 0
IsSide d x = AreParts d x.position x.terrain x.men x.goals

-- the same men, in the same order
pub record AreSameMen (a b : Men) : Type 0 where
  pub count : a.count ≡ b.count
  pub squares : (i : ℕ) → i < b.count → square_at a i ≡ square_at b i
  pub kinds : (i : ℕ) → i < b.count → kind_at a i ≡ kind_at b i

-- a side goes by the facts and the colour of this ground, and its men of the diagram are these
pub record IsLike (x : Side) (g : Ground) (men : Men) : Type 0 where
  pub facts : x.terrain.facts ≡ g.facts
  pub color : x.terrain.color ≡ g.color
  pub goals : AreSameMen x.goals men

-- a path of the man of kind k on s to be the man e of d counts at most n
abbrev pub GoalWithin : Side → Bool → ℕ → ℕ → Kind → ℕ → Type 0
GoalWithin x quiet e n k s =
    (ls : List Leg) × IsPath (facts_of x) x.terrain.color k s ls (kind_at x.goals e) (square_at x.goals e)
    × (weigh (counts (facts_of x) x.terrain.color quiet) ls ≤ n)

-- so does one, as any kind, to a square where captures of the other colour may land
abbrev pub FallWithin : Side → Bool → ℕ → Kind → ℕ → Type 0
FallWithin x quiet n k s =
    (j : Kind) × (t : ℕ) × (ls : List Leg) × (t < 64) × ((facts_of x).lands (other x.terrain.color) t ≡ true)
    × IsPath (facts_of x) x.terrain.color k s ls j t × (weigh (counts (facts_of x) x.terrain.color quiet) ls ≤ n)

-- e is an end: a man of d, or the end 16, to be captured, if there are more men than men of d
abbrev pub IsEnd : Side → ℕ → Type 0
IsEnd x e = (e < x.goals.count) ⊎ ((e ≡ 16) × (x.goals.count < x.men.count))

-- a path of the man of kind k on s to an end counts at most n
abbrev pub EndWithin : Side → Bool → ℕ → ℕ → Kind → ℕ → Type 0
EndWithin x quiet e n k s = ((e < x.goals.count) × GoalWithin x quiet e n k s) ⊎ ((e ≡ 16) × (x.goals.count < x.men.count) × FallWithin x quiet n k s)

-- the rings of an end
abbrev pub aim_at : List Rings → ℕ → Rings
aim_at aims e = get_or aims e (record { sets = []; count = 0; is_whole = false })

-- for each end the rings of the paths to it
pub record AreAims (x : Side) (quiet : Bool) (aims : List Rings) : Type 0 where
  pub ends : (e : ℕ) → IsEnd x e → AreRings (EndWithin x quiet e) (aim_at aims e)

-- the journeys of a side in a way
abbrev pub JourneysOf : Placement → Side → Option Wing → Type 0
JourneysOf d x way = Journeys (facts_of x) d x.position x.terrain.color way

-- `most` counts pay for them and for the way
abbrev pub IsPaidBy : (d : Placement) (x : Side) (quiet : Bool) (way : Option Wing) (most : ℕ) → JourneysOf d x way → Type 0
IsPaidBy d x quiet way most g = charge way + total (λ s. weigh (counts (facts_of x) x.terrain.color quiet) (g.path s)) 64 ≤ most

-- what a fate of the man i is met by in a way
abbrev pub MeetsAt : Placement → Side → Option Wing → ℕ → List Leg → Fate → Type 0
MeetsAt d x way i ls o =
    Meets (facts_of x) d x.position x.terrain.color (kind_at x.men i) (square_at x.men i) (counted x.terrain.color way (square_at x.men i)) ls o

-- the end of a fate: each man of d, and the end 16 for being captured
abbrev pub InEnd : Men → ℕ → Fate → Type 0
InEnd goals e (Arrives t) = (e < goals.count) × (square_at goals e ≡ t)
InEnd goals e (Falls u) = e ≡ 16

-- the room of each man at each end: by a path to a fate of that end some plan goes just where the path counts at most as much
pub record AreRooms (d : Placement) (x : Side) (quiet : Bool) (way : Option Wing) (most : ℕ) (rooms : List (List ℕ)) : Type 0 where
  pub small : (i e : ℕ) → i < x.men.count → e < 17 → get_or (get_or rooms i []) e 0 < 255 → get_or (get_or rooms i []) e 0 ≤ most
  pub some : (i e : ℕ) → i < x.men.count → e < 17 → get_or (get_or rooms i []) e 0 < 255 →
      (o : Fate) × (ls : List Leg) × InEnd x.goals e o × MeetsAt d x way i ls o
      × (weigh (counts (facts_of x) x.terrain.color quiet) ls ≤ get_or (get_or rooms i []) e 0)
  pub fits : (i e : ℕ) (o : Fate) (ls : List Leg) → i < x.men.count → e < 17 → InEnd x.goals e o → MeetsAt d x way i ls o →
      get_or (get_or rooms i []) e 0 < 255 → weigh (counts (facts_of x) x.terrain.color quiet) ls ≤ get_or (get_or rooms i []) e 0 →
      (g : JourneysOf d x way) × IsPaidBy d x quiet way most g × (g.fate (square_at x.men i) ≡ o) × (g.path (square_at x.men i) ≡ ls)
  pub least : (i e : ℕ) (g : JourneysOf d x way) → i < x.men.count → e < 17 → IsPaidBy d x quiet way most g → InEnd x.goals e (g.fate (square_at x.men i)) →
      (get_or (get_or rooms i []) e 0 < 255)
      × (weigh (counts (facts_of x) x.terrain.color quiet) (g.path (square_at x.men i)) ≤ get_or (get_or rooms i []) e 0)
