-- What the parts of narrowing find: squares and ends that counts of paths lead to, within a room.
use Rattle.std.specs.Prelude.{◌≡◌, ◌≢◌, ℕ, ◌+◌, ◌-◌, ◌<◌, ◌≤◌, ◌⊎◌, ◌&&◌, true, cond, List, get_or}
use Rattle.pg_board.specs.Bits.{has}
use Rattle.pg_board.specs.Men.{other}
use Rattle.pg_board.specs.declared.man.Kind.{Kind}
use Rattle.pg_board.specs.declared.man.Kind.TheVariants.{Pawn}
use Rattle.pg_journeys.specs.Journeys.{IsLeg, HasPassed}
use Rattle.pg_journeys.specs.Known.{landing}
use Rattle.pg_journeys.specs.lemmas.Turns.{leg}
use Rattle.pg_journeys.specs.inner.Counts.{of_kind}
use Rattle.pg_journeys.specs.inner.Levels.{AheadWithin}
use Rattle.pg_journeys.specs.inner.Rings.{TakesWithin}
use Rattle.pg_journeys.specs.inner.Sides.{facts_of, square_at, kind_at, IsEnd, EndWithin}
use Rattle.pg_journeys.specs.declared.side.Side.{Side}
use Rattle.pg_journeys.specs.declared.plans.Walker.{Walker}
use Rattle.pg_journeys.specs.declared.rings.Runner.{Runner}

-- some kind has the square in both
abbrev pub IsInBoth : List ℕ → List ℕ → ℕ → Type 0
IsInBoth one other q = (j : Kind) × (has (of_kind one j) q ≡ true) × (has (of_kind other j) q ≡ true)

-- the rooms of a man are below 200, and where there is one there is that end
abbrev pub AreEnds : Side → List ℕ → Type 0
AreEnds x rooms = (e : ℕ) → e < 17 → get_or rooms e 0 < 255 → (get_or rooms e 0 < 200) × IsEnd x e

-- by a step that may be a capture the man comes within i to q, and from there within the rest of the room to the end e
abbrev pub TakesAt : Side → Runner → ℕ → ℕ → ℕ → ℕ → Type 0
TakesAt x m e room i q =
    (j : Kind) × TakesWithin (facts_of x) x.terrain.color m.is_quiet m.kind m.square i j q × EndWithin x m.is_quiet e (room - i) j q

-- so it is by some number within the room
abbrev pub TakesTo : Side → Runner → ℕ → ℕ → ℕ → Type 0
TakesTo x m e room q = (i : ℕ) × (i < room + 1) × TakesAt x m e room i q

-- so it is on the way to the end e, by these rooms
abbrev pub TakesBy : Side → Runner → List ℕ → ℕ → ℕ → Type 0
TakesBy x m rooms e q = (get_or rooms e 0 < 255) × TakesTo x m e (get_or rooms e 0) q

-- so it is on the way to some end
abbrev pub TakesToSome : Side → Runner → List ℕ → ℕ → Type 0
TakesToSome x m rooms q = (e : ℕ) × (e < 17) × TakesBy x m rooms e q

-- as some kind he comes within the room to q, where captures of the other colour may land
abbrev pub StandsBy : Side → Runner → ℕ → ℕ → Type 0
StandsBy x m room q =
    (j : Kind) × AheadWithin (facts_of x) x.terrain.color m.is_quiet m.kind m.square room j q
    × (has (landing x.terrain.facts (other x.terrain.color)) q ≡ true)

-- the man on the square s has just passed q, where he may be captured
abbrev pub PassedBy : Side → ℕ → ℕ → Type 0
PassedBy x s q =
    HasPassed x.position x.terrain.color s q × (q < 64) × (has (landing x.terrain.facts (other x.terrain.color)) q ≡ true)

-- he may be captured on q: the room is one, and he comes there or has just passed it
abbrev pub FallsBy : Side → Walker → ℕ → ℕ → Type 0
FallsBy x m room q = (room < 255) × (StandsBy x m.runner room q ⊎ PassedBy x m.square q)

-- the man is on one of these squares within n of the end e
abbrev pub ComesBy : Side → Runner → ℕ → ℕ → ℕ → Type 0
ComesBy x m e n set = (t : ℕ) × (t < 64) × (has set t ≡ true) × EndWithin x m.is_quiet e n m.kind t

-- in quiet moves one of these steps of his may be a capture, and leads on to the end e within the room
abbrev pub TakesBack : Side → Runner → ℕ → ℕ → ℕ → Type 0
TakesBack x m e room steps =
    (m.is_quiet ≡ true) × (t : ℕ) × (t < 64) × (has steps t ≡ true) × (has (landing x.terrain.facts x.terrain.color) t ≡ true)
    × EndWithin x m.is_quiet e room m.kind t

-- a man who is no pawn steps to some square and on from there to the end e within the room
abbrev pub ComesBack : Side → Runner → ℕ → ℕ → Type 0
ComesBack x m e room =
    (t : ℕ) × (t < 64) × IsLeg (facts_of x) x.terrain.color (leg m.kind m.square m.kind t)
    × (n : ℕ) × EndWithin x m.is_quiet e n m.kind t × (cond (m.is_quiet && has (landing x.terrain.facts x.terrain.color) t) 0 1 + n ≤ room)

-- at the end e he does not stay: he is captured, or becomes a man on another square or of another kind, or comes back
abbrev pub ChangesBy : Side → Walker → ℕ → ℕ → Type 0
ChangesBy x m e room =
    (e ≡ 16) ⊎ ((square_at x.goals e ≢ m.square) ⊎ ((kind_at x.goals e ≢ m.runner.kind) ⊎ ((m.runner.kind ≢ Pawn) × ComesBack x m.runner e room)))

-- each square of the one set is in the other
abbrev pub IsFull : ℕ → ℕ → Type 0
IsFull set all = (q : ℕ) → q < 64 → has set q ≡ true → has all q ≡ true
