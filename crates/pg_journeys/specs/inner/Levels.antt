-- What a search by counts goes by: its start, its steps, and whom paths within a count reach.
use Rattle.std.specs.Prelude.{◌≡◌, ℕ, ◌<◌, ◌≤◌, Bool, true, List}
use Rattle.pg_board.specs.Bits.{has}
use Rattle.pg_board.specs.declared.man.Color.{Color}
use Rattle.pg_board.specs.declared.man.Kind.{Kind}
use Rattle.pg_journeys.specs.Facts.{Facts}
use Rattle.pg_journeys.specs.Journeys.{Leg, IsLeg, IsPath}
use Rattle.pg_journeys.specs.lemmas.DecidingPaths.{weigh}
use Rattle.pg_journeys.specs.lemmas.Turns.{leg}
use Rattle.pg_journeys.specs.inner.Counts.{of_kind}
use Rattle.pg_journeys.specs.inner.Counting.{counts}

-- ---- any search
-- a property of men on squares; the steps from each, with what they count; and what holds of a man by a count
abbrev pub Men : Type 1
Men = Kind → ℕ → Type 0

abbrev pub Steps : Type 1
Steps = Kind → ℕ → Kind → ℕ → ℕ → Type 0

abbrev pub Within : Type 1
Within = ℕ → Kind → ℕ → Type 0

-- one of the men on a set steps so
abbrev pub FromSome : (ℕ → Kind → ℕ → ℕ → Type 0) → ℕ → Kind → ℕ → ℕ → Type 0
FromSome step set j t w = (s : ℕ) × (s < 64) × (has set s ≡ true) × step s j t w

-- ---- backwards, from goals
abbrev pub BackStart : List ℕ → Kind → ℕ → Type 0
BackStart goals k s = has (of_kind goals k) s ≡ true

-- a step leads from the man of kind j on t to be the man of kind k on s
abbrev pub BackStep : Facts → Color → Bool → Kind → ℕ → Kind → ℕ → ℕ → Type 0
BackStep f c quiet k s j t w = IsLeg f c (leg j t k s) × (w ≡ counts f c quiet (leg j t k s))

-- a path to a goal counts at most n
abbrev pub BackWithin : Facts → Color → Bool → List ℕ → ℕ → Kind → ℕ → Type 0
BackWithin f c quiet goals n k s =
    (j : Kind) × (t : ℕ) × (ls : List Leg) × (t < 64) × (has (of_kind goals j) t ≡ true)
    × IsPath f c k s ls j t × (weigh (counts f c quiet) ls ≤ n)

-- ---- onwards, from the man of kind k on s
abbrev pub AheadStart : Kind → ℕ → Kind → ℕ → Type 0
AheadStart k s j t = (j ≡ k) × (t ≡ s)

-- a step leads from the man of kind k on s to be the man of kind j on t
abbrev pub AheadStep : Facts → Color → Bool → Kind → ℕ → Kind → ℕ → ℕ → Type 0
AheadStep f c quiet k s j t w = IsLeg f c (leg k s j t) × (w ≡ counts f c quiet (leg k s j t))

-- a path from the man counts at most n
abbrev pub AheadWithin : Facts → Color → Bool → Kind → ℕ → ℕ → Kind → ℕ → Type 0
AheadWithin f c quiet k s n j t = (ls : List Leg) × IsPath f c k s ls j t × (weigh (counts f c quiet) ls ≤ n)
