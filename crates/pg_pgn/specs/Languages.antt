-- Languages by their names, and texts that are read by the letters of one.
use Rattle.std.specs.Prelude.{◌≢◌, ℕ, List, codes}
use Rattle.pg_position.specs.declared.moves.Move.{Move}
use Rattle.pg_pgn.specs.declared.letters.Letters.{Letters}
use Rattle.pg_pgn.specs.declared.letters.Letters.TheVariants.{English, German, French, Dutch, Spanish, Italian}
use Rattle.pg_pgn.specs.declared.fault.PgnFault.{PgnFault}
use Rattle.pg_pgn.specs.declared.fault.PgnFault.TheVariants as Told
use Rattle.pg_pgn.specs.Pgn.{IsFile, IsFirstFault}

abbrev pub name_of : Letters → List ℕ
name_of English = codes "english"
name_of German = codes "german"
name_of French = codes "french"
name_of Dutch = codes "dutch"
name_of Spanish = codes "spanish"
name_of Italian = codes "italian"

-- the text is a file of games by the letters of this language
abbrev pub IsReadBy : Letters → List ℕ → Type 0
IsReadBy letters text = (games : List (List Move)) × IsFile letters text games

-- the text has a fault by English letters
abbrev pub IsFaulty : List ℕ → Type 0
IsFaulty text = (fault : PgnFault) × (fault ≢ Told.Memory) × IsFirstFault English text fault
