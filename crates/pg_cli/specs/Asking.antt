-- What a command is asked of.
use Rattle.std.specs.Prelude.{◌≡◌, ◌⊎◌, ◌↔◌, ℕ, List, Option, Result, Ok, Err, IsFalse, codes}
use Rattle.either.specs.Either.{either, is_left}
use Rattle.either.specs.declared.Either.{Either}
use Rattle.clap.specs.Words.{Row, Text}
use Rattle.pg_board.specs.Placement.{Placement}
use Rattle.pg_checker.specs.ProblemText.{IsProblemFault}
use Rattle.pg_checker.specs.declared.fault.ProblemFault.{ProblemFault}
use Rattle.pg_checker.specs.declared.problem.Problem.{Problem}
use Rattle.pg_tariff_files.specs.Files.{IsBegun}
use Rattle.pg_cli.specs.Runs.{IsRefusedFor, IsUnchecked}
use Rattle.pg_cli.specs.Answers.{HasAnswer, OfGiven}
use Rattle.pg_cli.specs.Ending.{IsSearchRefused, refuses}
use Rattle.pg_cli.specs.Words.{IsChecked, IsSpelled, Says, says_of_certificate, says_of_problem, says_of_words, spelled}
use Rattle.pg_cli.specs.declared.asked.Asked.{Asked}
use Rattle.pg_cli.specs.declared.asked.Asked.TheVariants as asked
use Rattle.pg_cli.specs.declared.commands.Command.{Command}
use Rattle.pg_cli.specs.declared.commands.Command.TheVariants.{OfProblem, Check, Search, OfCertificate, Other}
use Rattle.pg_cli.specs.declared.commands.OtherCommand.TheVariants.{Show}
use Rattle.pg_cli.specs.declared.refusals.Refusal.{Refusal}

-- the words DIAGRAM and LENGTH spell this problem, or are refused so
abbrev pub IsOfWords : List Row → Result Problem ProblemFault → Type 0
IsOfWords rows (Ok p) = IsSpelled rows p.diagram p.length
IsOfWords rows (Err fault) = IsProblemFault (spelled (codes "DIAGRAM") rows) (spelled (codes "LENGTH") rows) fault

-- the bytes of some opened file or, where the name is a hyphen, of some standard input, where those are known, are those
-- that state tariffs, if some do, and then these
abbrev pub IsOpenedBy : {F R : Type 0} → (F → Option (List ℕ)) → (R → Option (List ℕ)) → Text → Option (List ℕ)
    → List ℕ → Type 0
IsOpenedBy {F} {R} file input name left stated = (source : Either F R)
    × (IsFalse (is_left source) ↔ (name ≡ codes "-")) × IsBegun (either file input source) left stated

-- it is this command that is asked, and it is asked of what its words spell or name, where `Names` is what the header of
-- a certificate of a name names
abbrev pub IsAskedBy : {F : Type 0} → (Text → Placement → ℕ → Type 0) → Command → List Row → Asked F → Type 0
IsAskedBy Names command rows (asked.Words of problem) = (command ≡ OfProblem of) × IsOfWords rows problem
IsAskedBy Names command rows (asked.Check given carrying) = (command ≡ Check) × IsOfWords rows given
IsAskedBy Names command rows (asked.Search given) = (command ≡ Search) × IsOfWords rows given
IsAskedBy Names command rows (asked.File of certificate) = (command ≡ OfCertificate of)
    × Names (spelled (codes "CERT") rows) certificate.value.opened.diagram certificate.value.opened.plies
IsAskedBy Names command rows (asked.Other of) = command ≡ Other of

-- what a status says of what is asked
abbrev pub says_as_asked : {F : Type 0} → (Text → List ℕ → Type 0) → List Row → Asked F → ℕ → Type 0
says_as_asked Gives rows (asked.Words of given) status = OfGiven given (λ d n. says_of_problem of d n status)
says_as_asked Gives rows (asked.Check given carrying) status = OfGiven given (λ d n. IsChecked d n status)
says_as_asked Gives rows (asked.Search given) status = OfGiven given (λ d n. HasAnswer d n status)
says_as_asked Gives rows (asked.File of certificate) status =
    says_of_certificate of certificate.value.opened.diagram certificate.value.opened.plies status
says_as_asked Gives rows (asked.Other of) status = says_of_words Gives of rows status

-- what a refusal says of it
abbrev pub refuses_as_asked : {F : Type 0} → (Text → List ℕ → Type 0) → List Row → Asked F → Refusal → Type 0
refuses_as_asked Gives rows (asked.Words of given) refusal = Unit {0}
refuses_as_asked Gives rows (asked.Check given carrying) refusal = IsRefusedFor IsUnchecked given refusal
refuses_as_asked Gives rows (asked.Search given) refusal = IsSearchRefused given refusal
refuses_as_asked Gives rows (asked.File of certificate) refusal = Unit {0}
refuses_as_asked Gives rows (asked.Other of) refusal = refuses Gives (Other of) rows refusal

-- what is asked is gone about by the bound by journeys too: a diagram that is shown and a certificate always; a check where
-- the words say so of journeys or of tolls; and a search too, but where they say of tolls that journeys are left out
abbrev pub GoesByJourneys : {F : Type 0} → Asked F → List Row → Type 0
GoesByJourneys (asked.Other Show) rows = Unit {0}
GoesByJourneys (asked.Check given carrying) rows = Says (codes "journeys") rows ⊎ Says (codes "tolls") rows
GoesByJourneys (asked.Search given) rows =
    Says (codes "journeys") rows ⊎ (Says (codes "tolls") rows × ¬ Says (codes "no-journeys") rows)
GoesByJourneys (asked.File of certificate) rows = Unit {0}
GoesByJourneys asked rows = ⊥
