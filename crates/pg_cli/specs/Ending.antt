-- With which status the program ends: that of a command's answer, or that of its refusal, by what each says of the words.
use Rattle.std.specs.Prelude.{◌≡◌, ◌⊎◌, ℕ, Bool, List, Result, codes}
use Rattle.clap.specs.Words.{Row, Text, first_of}
use Rattle.clap.specs.declared.parser.matches.ArgMatches.{ArgMatches}
use Rattle.pg_board.specs.Placement.{Placement}
use Rattle.pg_checker.specs.declared.fault.ProblemFault.{ProblemFault}
use Rattle.pg_checker.specs.declared.problem.Problem.{Problem}
use Rattle.pg_cli.specs.Answers.{OfGiven}
use Rattle.pg_cli.specs.Refusals.{refusal_status}
use Rattle.pg_cli.specs.Runs.{AreEndsRefused, IsCountRefusal, IsListRefused, IsMovesRefusal, IsOfFile, IsOfGiven, IsOfInput, IsOfProblem, IsPgnRefused, IsRefusedFor, IsSearchRefusal, IsShowRefusal, IsUnchecked}
use Rattle.pg_cli.specs.Words.{IsStatus, OfCommand, OfPlies, OfSpelled, spelled}
use Rattle.pg_cli.specs.declared.commands.Command.{Command}
use Rattle.pg_cli.specs.declared.commands.Command.TheVariants.{Check, Search, Other}
use Rattle.pg_cli.specs.declared.commands.OtherCommand.TheVariants.{Show, Moves, Count, Judge, Pgn, End}
use Rattle.pg_cli.specs.declared.refusals.Refusal.{Refusal}
use Rattle.pg_cli.specs.declared.refusals.Refusal.TheVariants.{Minutes, Nodes, Bytes, NoName, Memory}

-- the words are not ready to be gone by, or memory was refused before a command was done
abbrev pub IsUnready : Refusal → Type 0
IsUnready Minutes = Unit {0}
IsUnready Nodes = Unit {0}
IsUnready Bytes = Unit {0}
IsUnready (NoName name) = Unit {0}
IsUnready Memory = Unit {0}
IsUnready refusal = ⊥

-- why a command on the problem of the words has no status: a file or what it holds is refused; the words are no problem;
-- or so it is for the one that they spell
abbrev pub IsRefusedWith : (Placement → ℕ → Refusal → Type 0) → List Row → Refusal → Type 0
IsRefusedWith Is rows refusal = IsOfInput refusal
    ⊎ (IsOfProblem rows refusal ⊎ OfSpelled rows (λ d n. Is d n refusal))

-- why a search for the games of a problem that is given has no status
abbrev pub IsSearchRefused : Result Problem ProblemFault → Refusal → Type 0
IsSearchRefused given refusal =
    IsOfFile refusal ⊎ (IsOfGiven given refusal ⊎ OfGiven given (λ d n. IsSearchRefusal d n refusal))

-- what a refusal says of a command with these words, where `Gives` is which bytes the list of a name has. Of those that
-- are not here it says nothing: why they have no status hangs on what files hold.
abbrev pub refuses : (Text → List ℕ → Type 0) → Command → List Row → Refusal → Type 0
refuses Gives (Other Show) rows refusal = (failed : Bool) × IsShowRefusal rows failed refusal
refuses Gives (Other Moves) rows refusal = (failed : Bool) × IsMovesRefusal (spelled (codes "FEN") rows) failed refusal
refuses Gives (Other Count) rows refusal =
    (failed : Bool) × OfPlies rows (λ plies. IsCountRefusal (spelled (codes "FEN") rows) plies failed refusal)
refuses Gives (Other Judge) rows refusal = IsListRefused Gives (spelled (codes "PROBLEMS") rows) refusal
refuses Gives (Other Pgn) rows refusal =
    IsPgnRefused Gives (spelled (codes "FILE") rows) (first_of (codes "letters") rows) refusal
refuses Gives (Other End) rows refusal = AreEndsRefused Gives (spelled (codes "MOVES") rows) refusal
refuses Gives Check rows refusal = IsRefusedWith IsUnchecked rows refusal
refuses Gives Search rows refusal = IsOfFile refusal
    ⊎ (IsOfProblem rows refusal ⊎ OfSpelled rows (λ d n. IsSearchRefusal d n refusal))
refuses Gives command rows refusal = Unit {0}

-- what a refusal says of the command that the words name
abbrev pub IsRefusal : (Text → List ℕ → Type 0) → ArgMatches → Refusal → Type 0
IsRefusal Gives words refusal = OfCommand words (λ command rows. IsUnready refusal ⊎ refuses Gives command rows refusal)

-- the command that the words name ends with this status: its own, or that of a refusal
abbrev pub IsEnd : (Text → Placement → ℕ → Type 0) → (Text → List ℕ → Type 0) → ArgMatches → ℕ → Type 0
IsEnd Names Gives words status = IsStatus Names Gives words status
    ⊎ ((refusal : Refusal) × IsRefusal Gives words refusal × (status ≡ refusal_status refusal))
