-- Bytes that a reader gives.
use Rattle.std.specs.Prelude.{◌≡◌, ℕ, List, [], ◌∷◌, ◌++◌, take, Option, IfSome}

-- six bytes that are 0
abbrev pub no_bytes : List ℕ
no_bytes = 0 ∷ 0 ∷ 0 ∷ 0 ∷ 0 ∷ 0 ∷ []

-- the first six of the bytes that are left, where those are known; a byte that is not there is 0
abbrev pub IsFront : Option (List ℕ) → List ℕ → Type 0
IsFront left front = IfSome left (λ given. front ≡ take 6 (given ++ no_bytes))

-- all the bytes that are left, where those are known
abbrev pub IsAll : Option (List ℕ) → List ℕ → Type 0
IsAll left bytes = IfSome left (λ given. bytes ≡ given)
