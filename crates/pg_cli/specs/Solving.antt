-- What solving a problem tells, and its status.
use Rattle.std.specs.Prelude.{ℕ, Bool, true, false, List, [], ◌∷◌, ◌++◌, Option, Some, None}
use Rattle.pg_board.specs.Placement.{Placement}
use Rattle.pg_position.specs.declared.moves.Move.{Move}
use Rattle.pg_judge.specs.Findings.{IsFindingText}
use Rattle.pg_judge.specs.Ruling.{IsFinding}
use Rattle.pg_judge.specs.declared.ruling.Evidence.TheVariants.{Several, Another, Shorter}
use Rattle.pg_judge.specs.declared.ruling.Finding.{Finding}
use Rattle.pg_judge.specs.declared.ruling.Finding.TheVariants.{Settled, NotSound, NotSettled}
use Rattle.pg_pgn.specs.Writing.{IsPgnText}
use Rattle.pg_cli.specs.Judging.{IsFindingStatus}

-- the games that are told of what is found beside the author's: those that settle the problem or show that it is not
-- sound; or the author's, and the one that shows that
abbrev pub games_of : List (List Move) → Finding → List (List Move)
games_of author (Settled verdict games) = games
games_of author (NotSound (Several games)) = games
games_of author (NotSound (Another game)) = author ++ game.items ∷ []
games_of author (NotSound (Shorter game)) = author ++ game.items ∷ []
games_of author (NotSettled known) = []

-- the text of what is found of the diagram d and n plies: its report or, as PGN, the games that are told of it
abbrev pub IsToldText : Bool → Placement → ℕ → List (List Move) → Finding → List ℕ → Type 0
IsToldText false d n author finding text = IsFindingText d n author finding text
IsToldText true d n author finding text = IsPgnText (games_of author finding) text

-- the text is that of what is found of the diagram d and n plies, beside the author's games, which is true, and this is
-- the status of that
abbrev pub IsSolvedWith : Bool → Placement → ℕ → List (List Move) → ℕ → List ℕ → Type 0
IsSolvedWith pgn d n author status text = (finding : Finding) × IsFinding d n author finding
    × IsToldText pgn d n author finding text × IsFindingStatus finding status

-- so it is beside some games
abbrev pub IsSolvedBeside : Bool → Placement → ℕ → ℕ → List ℕ → Type 0
IsSolvedBeside pgn d n status text = (author : List (List Move)) × IsSolvedWith pgn d n author status text

-- of the length that is asked; where none is, of some length
abbrev pub IsSolvedBoard : Bool → Placement → Option ℕ → ℕ → List ℕ → Type 0
IsSolvedBoard pgn d (Some n) status text = IsSolvedBeside pgn d n status text
IsSolvedBoard pgn d None status text = (n : ℕ) × IsSolvedBeside pgn d n status text
