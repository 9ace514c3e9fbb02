-- What is found beside a list of games, what that says of the problem, its report, and why there is none.
use Rattle.std.specs.Prelude.{◌≡◌, ◌≢◌, ℕ, ◌<◌, eqb, cond, Bool, true, Option, Some, None, List, [], ◌++◌, length, codes, decimal}
use Rattle.std.specs.List.{Contains}
use Rattle.pg_board.specs.Placement.{Placement}
use Rattle.pg_position.specs.declared.moves.Move.{Move}
use Rattle.pg_san.specs.Games.{IsFromArray}
use Rattle.pg_texts.specs.Movetext.{IsMovetext}
use Rattle.pg_texts.specs.Report.{line_text}
use Rattle.pg_searcher.specs.declared.led.answer.LedEnd.{LedEnd}
use Rattle.pg_searcher.specs.declared.led.answer.LedEnd.TheVariants.{All, Foreign, Nodes}
use Rattle.pg_checker.specs.Answer.{IsSolution, AreSolutions}
use Rattle.pg_checker.specs.Listed.{IsListFault}
use Rattle.pg_cooks.specs.declared.finding.CookAnswer.{CookAnswer}
use Rattle.pg_cooks.specs.declared.finding.CookAnswer.TheVariants.{Cook, Shorter, NotFound}
use Rattle.pg_cooks.specs.declared.fault.CooksFault.{CooksFault}
use Rattle.pg_cooks.specs.declared.fault.CooksFault.TheVariants.{NoGame, Listed, Memory}
use Rattle.pg_cooks.specs.declared.fault.CooksRunFault.{CooksRunFault}
use Rattle.pg_cooks.specs.declared.fault.CooksRunFault.TheVariants as run
use Rattle.pg_cooks.specs.declared.standing.Standing.{Standing}
use Rattle.pg_cooks.specs.declared.standing.Standing.TheVariants.{NotSound, AtLeastOne, NoneGiven}
use Rattle.pg_cooks.specs.Parting.{apart_text}
use Rattle.pg_cooks.specs.Standing.{IsKnownText, IsStanding}
use Rattle.pg_cooks.specs.Unsound.{IsUnsound, HasNoAnswer, IsStandingTrue}

-- ---- the answer
-- another game: a solution that the list does not have; a shorter one: it has fewer plies,
-- and is a solution for that number of them; else what is told of the listed games is what they say
abbrev pub IsCookAnswer : Placement → ℕ → List (List Move) → CookAnswer → Type 0
IsCookAnswer d n games (Cook game) = IsSolution d n game.items × ¬ Contains games game.items
IsCookAnswer d n games (Shorter game) = (length game.items < n) × IsSolution d (length game.items) game.items
IsCookAnswer d n games (NotFound foreign nodes end standing) = IsStanding games standing

-- what it says of the problem: with another game no list of one game is the exact answer;
-- with a shorter one no list is; else what the listed games say by themselves is true
abbrev pub IsRefuted : Placement → ℕ → CookAnswer → Type 0
IsRefuted d n (Cook game) = IsUnsound d n
IsRefuted d n (Shorter game) = HasNoAnswer d n
IsRefuted d n (NotFound foreign nodes end standing) = IsStandingTrue d n standing

-- why there is no answer: the list is empty; else a listed game is no solution; else memory was refused
abbrev pub IsCooksFault : Placement → ℕ → List (List Move) → CooksFault → Type 0
IsCooksFault d n games NoGame = games ≡ []
IsCooksFault d n games (Listed fault) = (games ≢ []) × IsListFault d n games fault
IsCooksFault d n games Memory = (games ≢ []) × AreSolutions d n games

-- ---- the report
-- the game that is told is one from the initial array
abbrev pub IsTold : CookAnswer → Type 0
IsTold (Cook game) = IsFromArray game.items
IsTold (Shorter game) = IsFromArray game.items
IsTold (NotFound foreign nodes end standing) = Unit {0}

-- that the problem is not sound; and before it, where another game parts from the first that is known
abbrev pub unsound_text : List ℕ
unsound_text = line_text (codes "not sound")

abbrev pub cook_text : List (List Move) → List Move → List ℕ
cook_text games game = apart_text (codes "it parts from the first") games game (codes "\n") ++ unsound_text

-- the movetext of a game that is found, and what stands behind it
abbrev pub IsEndText : List ℕ → List Move → List ℕ → Type 0
IsEndText last game text = (line : List ℕ) × IsMovetext game line × (text ≡ line_text line ++ last)

-- the line that says what the game is, and these
abbrev pub IsFoundText : List ℕ → List ℕ → List Move → List ℕ → Type 0
IsFoundText what last game text = (rest : List ℕ) × IsEndText last game rest × (text ≡ what ++ rest)

-- those of another game beside some that are known, and of a shorter one
abbrev pub IsCookText : List (List Move) → List Move → List ℕ → Type 0
IsCookText games game text = IsFoundText (line_text (codes "another game")) (cook_text games game) game text

abbrev pub IsShorterText : List Move → List ℕ → Type 0
IsShorterText game text =
    IsFoundText (codes "a game of " ++ (decimal (length game) ++ line_text (codes " plies"))) unsound_text game text

-- the words behind a number of foreign moves
abbrev pub foreign_text : ℕ → List ℕ
foreign_text n = cond (eqb n 1) (codes " foreign move") (codes " foreign moves")

-- that no game was found, and with how many foreign moves at most, where the search says it
abbrev pub within_text : Option ℕ → List ℕ
within_text (Some n) = codes "none with at most " ++ (decimal n ++ foreign_text n)
within_text None = codes "none found"

-- the line that says it, and how the search says that it came to its end
abbrev pub unfound_text : Option ℕ → LedEnd → List ℕ
unfound_text foreign All = line_text (codes "none: the search went through all games")
unfound_text foreign Foreign = within_text foreign ++ line_text (codes ": no more were allowed")
unfound_text foreign Nodes = within_text foreign ++ line_text (codes ": node limit reached")

-- that line, and the one that the problem is not sound where the listed games say it by themselves
abbrev pub none_text : Option ℕ → LedEnd → Standing → List ℕ
none_text foreign end NotSound = unfound_text foreign end ++ unsound_text
none_text foreign end AtLeastOne = unfound_text foreign end
none_text foreign end NoneGiven = unfound_text foreign end

-- the lines of an answer, beside some games
abbrev pub IsAnswerText : List (List Move) → CookAnswer → List ℕ → Type 0
IsAnswerText games (Cook game) text = IsCookText games game.items text
IsAnswerText games (Shorter game) text = IsShorterText game.items text
IsAnswerText games (NotFound foreign nodes end standing) text = text ≡ none_text foreign end standing

-- the report of a diagram, a length in plies, games that are known and what was found beside them
pub record IsCooksReport (diagram : Placement) (plies : ℕ) (games : List (List Move)) (answer : CookAnswer)
    (text : List ℕ)
    : Type 0 where
  pub front : List ℕ
  pub last : List ℕ
  pub is_front : IsKnownText diagram plies games front
  pub is_last : IsAnswerText games answer last
  pub is : text ≡ front ++ last

-- ---- refusals
-- why there is no report: that of the answer; else the sink has failed after each listed game was tested
abbrev pub IsCooksRunFault : Placement → ℕ → List (List Move) → Bool → CooksRunFault → Type 0
IsCooksRunFault d n games failed (run.Cooks fault) = IsCooksFault d n games fault
IsCooksRunFault d n games failed run.Write = AreSolutions d n games × (failed ≡ true)
