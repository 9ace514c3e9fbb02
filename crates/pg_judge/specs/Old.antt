-- Why a certificate that stands in the place of a problem's does not settle the problem.
use Rattle.pg_checker.specs.declared.fault.AnswerFault.{AnswerFault}
use Rattle.pg_checker.specs.declared.fault.AnswerFault.TheVariants.{Check, TooManyGames, Memory}
use Rattle.pg_checker.specs.declared.fault.Fault.{Fault}
use Rattle.pg_checker.specs.declared.fault.Fault.TheVariants as check
use Rattle.pg_judge.specs.declared.old.Unsettled.{Unsettled}
use Rattle.pg_judge.specs.declared.old.Unsettled.TheVariants as unsettled

-- by what a check answers: its header names another length or another diagram; a read has failed, or a growth was
-- refused; it meets a shorter game; else its bytes are at fault
abbrev pub of_check : Fault → Unsettled
of_check check.OtherLength = unsettled.OfAnother
of_check check.OtherDiagram = unsettled.OfAnother
of_check check.Read = unsettled.Read
of_check check.Memory = unsettled.Memory
of_check (check.Shorter plies) = unsettled.Games
of_check fault = unsettled.Bytes

-- likewise by what the reading of its games answers, which may be more than a list holds
abbrev pub unsettled_of : AnswerFault → Unsettled
unsettled_of (Check fault) = of_check fault
unsettled_of TooManyGames = unsettled.Games
unsettled_of Memory = unsettled.Memory
