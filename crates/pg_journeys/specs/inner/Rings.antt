-- Rings: for each count the men, by kind and square, whom a path of at most that count reaches.
use Rattle.std.specs.Prelude.{◌≡◌, ℕ, ◌-◌, ◌<◌, ◌≤◌, ◌⊎◌, ◌↔◌, Bool, true, List, [], get_or}
use Rattle.pg_board.specs.Bits.{has}
use Rattle.pg_board.specs.declared.man.Color.{Color}
use Rattle.pg_board.specs.declared.man.Kind.{Kind}
use Rattle.pg_journeys.specs.Facts.{Facts}
use Rattle.pg_journeys.specs.inner.Counts.{of_kind}
use Rattle.pg_journeys.specs.inner.Counting.{ComesTaking}
use Rattle.pg_journeys.specs.declared.rings.Rings.{Rings}

-- the rings show W: each that is kept shows who is within its number, and if they are whole, nobody is met by more
pub record AreRings (W : ℕ → Kind → ℕ → Type 0) (r : Rings) : Type 0 where
  pub some : 1 ≤ r.count
  pub few : r.count ≤ 12
  pub kept : (n : ℕ) (k : Kind) (s : ℕ) → n < r.count → s < 64 → (has (of_kind (get_or r.sets n []) k) s ≡ true) ↔ W n k s
  pub whole : r.is_whole ≡ true → (n : ℕ) (k : Kind) (s : ℕ) → s < 64 → W n k s → W (r.count - 1) k s

-- the sets show who is within n
abbrev pub AreWithin : (ℕ → Kind → ℕ → Type 0) → ℕ → List ℕ → Type 0
AreWithin W n sets = (k : Kind) (s : ℕ) → s < 64 → (has (of_kind sets k) s ≡ true) ↔ W n k s

-- by a path whose last step may be a capture the man of kind k on s comes to be of kind j on t, and it counts at most n
abbrev pub TakesWithin : Facts → Color → Bool → Kind → ℕ → ℕ → Kind → ℕ → Type 0
TakesWithin f c quiet k s n j t = (m : ℕ) × (m ≤ n) × ComesTaking f c quiet k s j t m

-- a ring to be read for n: that of n itself, or the last one where the rings are whole
pub record IsRing (r : Rings) (n : ℕ) (ring : List ℕ) : Type 0 where
  pub at : ℕ
  pub kept : at < r.count
  pub same : ring ≡ get_or r.sets at []
  pub fits : (at ≡ n) ⊎ ((at ≡ r.count - 1) × (r.count ≤ n) × (r.is_whole ≡ true))
