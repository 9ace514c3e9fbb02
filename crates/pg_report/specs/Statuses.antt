-- The status with which the program ends: 0 sound, or a command done; 1 another verdict, or a list or a certificate
-- that is refused, or a search that finds no list; 2 bad words or texts; 3 want of memory; 4 a file that is not
-- read or written.
use Rattle.std.specs.Prelude.{ℕ}
use Rattle.pg_moves.specs.declared.fault.CountFault.{CountFault}
use Rattle.pg_moves.specs.declared.fault.CountFault.TheVariants as counting
use Rattle.pg_san.specs.declared.listing_fault.GamesFault.{GamesFault}
use Rattle.pg_san.specs.declared.listing_fault.GamesFault.TheVariants as listing
use Rattle.pg_checker.specs.declared.fault.Fault.{Fault}
use Rattle.pg_checker.specs.declared.fault.Fault.TheVariants as checking
use Rattle.pg_searcher.specs.declared.fault.SearchFault.{SearchFault}
use Rattle.pg_searcher.specs.declared.fault.SearchFault.TheVariants as searching
use Rattle.pg_texts.specs.declared.fault.MovesFault.{MovesFault}
use Rattle.pg_texts.specs.declared.fault.MovesFault.TheVariants as moving
use Rattle.pg_texts.specs.declared.fault.CountRunFault.{CountRunFault}
use Rattle.pg_texts.specs.declared.fault.CountRunFault.TheVariants as numbering
use Rattle.pg_report.specs.declared.fault.RunFault.{RunFault}
use Rattle.pg_report.specs.declared.fault.RunFault.TheVariants as running
use Rattle.pg_checker.specs.declared.fault.AnswerFault.TheVariants as answer
use Rattle.pg_report.specs.declared.fault.AnswerRunFault.{AnswerRunFault}
use Rattle.pg_report.specs.declared.fault.AnswerRunFault.TheVariants as answering
use Rattle.pg_report.specs.declared.fault.ShowFault.{ShowFault}
use Rattle.pg_report.specs.declared.fault.ShowFault.TheVariants as showing
use Rattle.pg_texts.specs.declared.fault.UpgradeFault.{UpgradeFault}
use Rattle.pg_texts.specs.declared.fault.UpgradeFault.TheVariants as upgrading
use Rattle.pg_texts.specs.declared.verdict.Verdict.{Verdict}
use Rattle.pg_texts.specs.declared.verdict.Verdict.TheVariants as verdict

abbrev pub verdict_status : Verdict → ℕ
verdict_status verdict.Sound = 0
verdict_status verdict.Cooked = 1
verdict_status verdict.NoGame = 1

abbrev pub games_status : GamesFault → ℕ
games_status listing.Memory = 3
games_status fault = 2

abbrev pub check_status : Fault → ℕ
check_status checking.Memory = 3
check_status checking.Read = 4
check_status fault = 1

abbrev pub status_of : RunFault → ℕ
status_of (running.Diagram fault) = 2
status_of (running.Length fault) = 2
status_of (running.Games fault) = games_status fault
status_of (running.Check fault) = check_status fault
status_of running.Write = 4

abbrev pub answer_status_of : AnswerRunFault → ℕ
answer_status_of answering.NoProblem = 1
answer_status_of (answering.Answer (answer.Check fault)) = check_status fault
answer_status_of (answering.Answer answer.TooManyGames) = 1
answer_status_of (answering.Answer answer.Memory) = 3
answer_status_of answering.Write = 4

abbrev pub search_status_of : SearchFault → ℕ
search_status_of searching.Budget = 1
search_status_of (searching.Shorter plies) = 1
search_status_of searching.TooManyGames = 1
search_status_of searching.Write = 4
search_status_of searching.Memory = 3

abbrev pub moves_status_of : MovesFault → ℕ
moves_status_of (moving.Position fault) = 2
moves_status_of moving.Memory = 3
moves_status_of moving.Write = 4

abbrev pub number_status : CountFault → ℕ
number_status counting.TooDeep = 2
number_status counting.Overflow = 2
number_status counting.Memory = 3

abbrev pub count_status_of : CountRunFault → ℕ
count_status_of (numbering.Position fault) = 2
count_status_of (numbering.Count fault) = number_status fault
count_status_of numbering.Write = 4

abbrev pub show_status_of : ShowFault → ℕ
show_status_of showing.Memory = 3
show_status_of showing.Write = 4

abbrev pub upgrade_status_of : UpgradeFault → ℕ
upgrade_status_of upgrading.Read = 4
upgrade_status_of upgrading.Write = 4
upgrade_status_of fault = 1
