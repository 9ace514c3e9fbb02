-- From the facts of a round to those of the next.
use Rattle.std.specs.Prelude.{◌≡◌, ℕ, ◌<◌, true, false, Option}
use Rattle.pg_board.specs.Bits.{has}
use Rattle.pg_board.specs.declared.man.Color.{Color}
use Rattle.pg_board.specs.declared.man.Kind.{Kind}
use Rattle.pg_board.specs.Placement.{Placement}
use Rattle.pg_position.specs.declared.rights.Wing.{Wing}
use Rattle.pg_position.specs.declared.state.State.{State}
use Rattle.pg_position.specs.Position.{Stands}
use Rattle.pg_captures.specs.Counting.{men, any_man}
use Rattle.pg_journeys.specs.Facts.{Facts}
use Rattle.pg_journeys.specs.Plans.{Measure, IsAlive}
use Rattle.pg_journeys.specs.Narrowing.{IsNarrowing}
use Rattle.pg_journeys.specs.Rounds.{AreFacts}
use Rattle.pg_journeys.specs.inner.Showing.{lands_by, falls_by}
use Rattle.pg_journeys.specs.declared.shown.Shown.{Shown}

-- p has fewer men of a colour than d
abbrev pub HasFewer : Placement → State → Type 0
HasFewer d p = (c : Color) × (men c any_man p.board < men c any_man d)

-- b and d have the same man of c on s, and he is none of those who change
abbrev pub IsKept : Placement → Placement → Color → ℕ → ℕ → Type 0
IsKept d b c changed s = (j : Kind) × Stands b c j s × Stands d c j s × (has changed s ≡ false)

-- captures landed on q, which is not still, and by each measure the one colour's plans take there and the other's fall there
abbrev pub MayLand : ℕ → ℕ → Shown → Shown → ℕ → Type 0
MayLand before still own theirs q =
    (has before q ≡ true) × (has still q ≡ false)
    × ((u : Measure) → (has (lands_by own u) q ≡ true) × (has (falls_by theirs u) q ≡ true))

-- by the facts f each colour has a way alive, and e is their narrowing
pub record IsNext (f e : Facts) (d : Placement) (p : State) (k : ℕ) : Type 0 where
  pub narrows : IsNarrowing f e d p k
  pub alive : (c : Color) → (way : Option Wing) × IsAlive f d p k c way

-- f are the facts of the round i, and in each round before it each colour has a way alive
pub record IsRound (d : Placement) (p : State) (k i : ℕ) (f : Facts) : Type 0 where
  pub facts : AreFacts d p k i f
  pub alive : (j : ℕ) (e : Facts) → j < i → AreFacts d p k j e → (c : Color) → (way : Option Wing) × IsAlive e d p k c way
