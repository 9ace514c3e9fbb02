-- What the report of a certificate's own games says, and why there is none.
use Rattle.std.specs.Prelude.{◌≡◌, ℕ, true, List, Option, Err}
use Rattle.pg_board.specs.Placement.{Placement}
use Rattle.pg_certificate.specs.Pushing.{AddsSome}
use Rattle.pg_checker.specs.Answer.{IsExactAnswer}
use Rattle.pg_checker.specs.Answering.{AnswerAccepts, AnswerRefuses, AnswerTells, IsProvedBy}
use Rattle.pg_checker.specs.Terms.{Terms}
use Rattle.pg_checker.specs.declared.certify.Answer.{Answer as Answered}
use Rattle.pg_checker.specs.declared.fault.AnswerFault.TheVariants.{Check}
use Rattle.pg_checker.specs.declared.fault.OpenFault.{OpenFault}
use Rattle.pg_checker.specs.declared.fault.OpenFault.TheVariants as opening
use Rattle.pg_texts.specs.Report.{IsReport, IsVerdict}
use Rattle.pg_texts.specs.declared.verdict.Verdict.{Verdict}
use Rattle.pg_report.specs.Run.{Failures}
use Rattle.pg_report.specs.declared.fault.AnswerRunFault.{AnswerRunFault}
use Rattle.pg_report.specs.declared.fault.AnswerRunFault.TheVariants.{NoProblem, Answer, Write}

-- why a certificate is not opened, as why it has no report
abbrev pub of_opening : OpenFault → AnswerRunFault
of_opening (opening.Header fault) = Answer (Check fault)
of_opening opening.NoProblem = NoProblem

-- these games are the exact answer, and the known bytes are a certificate for them
abbrev pub IsProvedAnswer : Terms → Placement → ℕ → Answered → Type 0
IsProvedAnswer t d n a = IsExactAnswer d n a.games × IsProvedBy t d n a

-- some games are, this is their verdict, and their report is appended
abbrev pub IsReported : Terms → Placement → ℕ → Option (List ℕ) → Option (List ℕ) → Verdict → Type 0
IsReported t d n before after v =
    (a : Answered) × IsProvedAnswer t d n a × IsVerdict a.games v × AddsSome (IsReport d n a.games) before after

-- why there is no report: the certificate has no answer, for a cause that it has by these rules or, where it
-- stands, by those for which each game is listed; or it has one, and the sink has failed
abbrev pub IsUnreported : Terms → Terms → Placement → ℕ → Failures → AnswerRunFault → Type 0
IsUnreported t any d n failed (Answer e) =
    AnswerAccepts t d n (Err e) × AnswerRefuses any d n failed.source (Err e) × AnswerTells d n (Err e)
IsUnreported t any d n failed Write = (failed.sink ≡ true) × ((a : Answered) × IsProvedAnswer t d n a)
IsUnreported t any d n failed NoProblem = ⊥
