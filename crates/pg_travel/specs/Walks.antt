-- Walks and distances: one man alone on the board.
use Rattle.std.specs.Prelude.{◌≡◌, ℕ, zero, suc, ◌≤◌, Option, Some, None}
use Rattle.pg_board.specs.declared.man.Color.{Color}
use Rattle.pg_board.specs.declared.man.Kind.{Kind}
use Rattle.pg_captures.specs.FreeSteps.{FreeStep}

-- a walk of n free steps
abbrev pub Walk : Color → Kind → ℕ → ℕ → Kind → ℕ → Type 0
Walk c k r zero j s = (k ≡ j) × (r ≡ s)
Walk c k r (suc n) j s = (i : Kind) × (t : ℕ) × FreeStep c k r i t × Walk c i t n j s

-- n is the least number with P
abbrev pub IsLeast : (ℕ → Type 0) → ℕ → Type 0
IsLeast P n = P n × ((m : ℕ) → P m → n ≤ m)

-- the distance: the length of a shortest walk
abbrev pub IsDistance : Color → Kind → ℕ → Kind → ℕ → ℕ → Type 0
IsDistance c k r j s n = IsLeast (λ m. Walk c k r m j s) n

-- the answer for walks from k on r to j on s: the distance, or none where there is no walk
abbrev pub DistanceIs : Color → Kind → ℕ → Kind → ℕ → Option ℕ → Type 0
DistanceIs c k r j s None = (n : ℕ) → ¬ Walk c k r n j s
DistanceIs c k r j s (Some n) = IsDistance c k r j s n
