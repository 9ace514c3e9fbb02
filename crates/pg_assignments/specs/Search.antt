-- What a step of the plain search finds.
use Rattle.std.specs.Prelude.{◌≡◌, ◌≢◌, ℕ, ◌+◌, ◌<◌, Bool, true, false, List, Option, Some, None, get_or, min}
use Rattle.pg_assignments.specs.Assignments.{IsTotal}

-- the column is free
abbrev pub IsFree : List Bool → ℕ → Type 0
IsFree free j = get_or free j false ≡ true

-- x is the total of rows up to k that has k at j, and the others at columns in P but j
abbrev pub IsVia : (ℕ → ℕ → ℕ) → (ℕ → Type 0) → ℕ → ℕ → ℕ → Type 0
IsVia c P k j x = P j × (c k j < 255) × ((y : ℕ) × IsTotal c (λ q. P q × (q ≢ j)) k y × (x ≡ y + c k j))

-- the lesser of two numbers, where there are any
unfoldable pub lesser_of : Option ℕ → Option ℕ → Option ℕ
lesser_of None b = b
lesser_of (Some x) None = Some x
lesser_of (Some x) (Some y) = Some (min x y)
