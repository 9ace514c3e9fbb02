-- A text as it is written in HTML.
use Rattle.std.specs.Prelude.{ℕ, Bool, List, [], ◌∷◌, cond, eqb, ◌||◌, codes}
use Rattle.std.specs.List.{flat_map}

-- whether a character has a meaning in HTML: & < > and the double quote
abbrev pub has_meaning : ℕ → Bool
has_meaning b = eqb b 38 || eqb b 60 || eqb b 62 || eqb b 34

-- what is written for such a character
abbrev pub entity_of : ℕ → List ℕ
entity_of b = cond (eqb b 38) (codes "&amp;") (cond (eqb b 60) (codes "&lt;") (cond (eqb b 62) (codes "&gt;") (codes "&quot;")))

-- a character as it is written
abbrev pub written_as : ℕ → List ℕ
written_as b = cond (has_meaning b) (entity_of b) (b ∷ [])

-- a text as it is written
abbrev pub escaped : List ℕ → List ℕ
escaped bytes = flat_map written_as bytes
