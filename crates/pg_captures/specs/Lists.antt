-- The first element of a list with a code.
use Rattle.std.specs.Prelude.{ℕ, Option, Some, None, List, [], ◌∷◌, cond, nat_eq}

abbrev pub first_of : {X : Type 0} → (X → ℕ) → ℕ → List X → Option X
first_of f c [] = None
first_of f c (x ∷ xs) = cond (nat_eq (f x) c) (Some x) (first_of f c xs)
