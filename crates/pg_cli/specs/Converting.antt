-- What a status of `pg pgn` and of `pg end` says of the bytes that are read.
use Rattle.std.specs.Prelude.{◌≡◌, ◌⊎◌, ℕ, List, Option, None, Some, codes}
use Rattle.clap.specs.Words.{Text}
use Rattle.pg_position.specs.declared.moves.Move.{Move}
use Rattle.pg_san.specs.Listing.{IsListing}
use Rattle.pg_pgn.specs.Pgn.{IsFile}
use Rattle.pg_pgn.specs.Languages.{name_of}
use Rattle.pg_pgn.specs.declared.letters.Letters.{Letters}
use Rattle.pg_pgn.specs.declared.letters.Letters.TheVariants.{English}
use Rattle.pg_cli.specs.declared.refusals.Refusal.{Refusal}
use Rattle.pg_cli.specs.declared.refusals.Refusal.TheVariants.{Letters as NoLetters}

-- the letters of the language that a word names; where there is no such word, English ones
abbrev pub AreNamed : Option Text → Letters → Type 0
AreNamed None letters = letters ≡ English
AreNamed (Some name) letters = name ≡ name_of letters

-- the word is no name of letters, and that is told
abbrev pub IsUnnamed : Option Text → Refusal → Type 0
IsUnnamed word refusal = (refusal ≡ NoLetters) × ((letters : Letters) → ¬ AreNamed word letters)

-- the bytes that a name gives are games in PGN, in the letters that a word names, and the status is 0
abbrev pub HasPgn : (Text → List ℕ → Type 0) → Text → Option Text → ℕ → Type 0
HasPgn Gives name word status = (text : List ℕ) × Gives name text
    × ((letters : Letters) × AreNamed word letters × ((games : List (List Move)) × IsFile letters text games))
    × (status ≡ 0)

-- the bytes are these moves, or what a hyphen gives
abbrev pub IsTyped : (Text → List ℕ → Type 0) → Text → List ℕ → Type 0
IsTyped Gives moves text = (text ≡ moves) ⊎ ((moves ≡ codes "-") × Gives moves text)

-- these bytes are a list of games, and the status is 0
abbrev pub HasEnds : (Text → List ℕ → Type 0) → Text → ℕ → Type 0
HasEnds Gives moves status = (text : List ℕ) × IsTyped Gives moves text
    × ((games : List (List Move)) × IsListing text games) × (status ≡ 0)
