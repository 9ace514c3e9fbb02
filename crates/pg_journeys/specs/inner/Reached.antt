-- What is reached from a man: where he stands, and where steps that may be captures lead him.
use Rattle.std.specs.Prelude.{◌≡◌, ℕ, ◌<◌, ◌⊎◌, Bool, true, List}
use Rattle.pg_board.specs.Bits.{has}
use Rattle.pg_board.specs.declared.man.Color.{Color}
use Rattle.pg_board.specs.declared.man.Kind.{Kind}
use Rattle.pg_journeys.specs.Facts.{Facts}
use Rattle.pg_journeys.specs.Journeys.{IsLeg, may_take}
use Rattle.pg_journeys.specs.lemmas.Turns.{leg}
use Rattle.pg_journeys.specs.inner.Counts.{of_kind}
use Rattle.pg_journeys.specs.inner.Levels.{AheadWithin}
use Rattle.pg_journeys.specs.inner.Rings.{AreRings}
use Rattle.pg_journeys.specs.declared.rings.Reach.{Reach}
use Rattle.pg_journeys.specs.declared.rings.Runner.{Runner}

-- a step that may be a capture leads from the man of kind k on s to be the man of kind j on t
abbrev pub TakeStep : Facts → Color → Kind → ℕ → Kind → ℕ → Type 0
TakeStep f c k s j t = IsLeg f c (leg k s j t) × (may_take f c (leg k s j t) ≡ true)

-- one of the men on a set steps so
abbrev pub TakesOf : (ℕ → Kind → ℕ → Type 0) → ℕ → Kind → ℕ → Type 0
TakesOf step set j t = (s : ℕ) × (s < 64) × (has set s ≡ true) × step s j t

-- whom S names was joined to the sets
pub record AreGrown (S : Kind → ℕ → Type 0) (old new : List ℕ) : Type 0 where
  pub kept : (j : Kind) (t : ℕ) → t < 64 → has (of_kind old j) t ≡ true → has (of_kind new j) t ≡ true
  pub all : (j : Kind) (t : ℕ) → t < 64 → S j t → has (of_kind new j) t ≡ true
  pub added : (j : Kind) (t : ℕ) → t < 64 → has (of_kind new j) t ≡ true → (has (of_kind old j) t ≡ true) ⊎ S j t

-- after a path of his that counts at most n the man of kind k on s takes a step that may be a capture, to be of kind j on t
abbrev pub TakesAfter : Facts → Color → Bool → Kind → ℕ → ℕ → Kind → ℕ → Type 0
TakesAfter f c quiet k s n j t = (i : Kind) × (x : ℕ) × (x < 64) × AheadWithin f c quiet k s n i x × TakeStep f c i x j t

-- the rings show where the man stands within each number, and where a step that may be a capture leads him from there
pub record IsReach (f : Facts) (c : Color) (man : Runner) (r : Reach) : Type 0 where
  pub stands : AreRings (AheadWithin f c man.is_quiet man.kind man.square) r.stands
  pub taken : AreRings (TakesAfter f c man.is_quiet man.kind man.square) r.taken
