-- The texts of several things.
use Rattle.std.specs.Prelude.{◌≡◌, ℕ, List, [], ◌∷◌, ◌++◌}

-- a text of each, one after another
unfoldable pub AreTexts : {X : Type 0} → (X → List ℕ → Type 0) → List X → List ℕ → Type 0
AreTexts Is [] text = text ≡ []
AreTexts Is (x ∷ xs) text =
    (one : List ℕ) × (rest : List ℕ) × Is x one × AreTexts Is xs rest × (text ≡ one ++ rest)
