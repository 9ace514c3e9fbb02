-- What a check of texts says: which texts spell what, and why there is no report.
use Rattle.std.specs.Prelude.{◌≡◌, ℕ, true, List, Ok, Err}
use Rattle.pg_board.specs.Placement.{Placement}
use Rattle.pg_position.specs.declared.moves.Move.{Move}
use Rattle.pg_fen.specs.Fields.{fields}
use Rattle.pg_fen.specs.DiagramText.{diagram_of}
use Rattle.pg_fen.specs.Lengths.{length_of}
use Rattle.pg_san.specs.Listing.{IsTextFault}
use Rattle.pg_checker.specs.Answer.{IsExactAnswer}
use Rattle.pg_checker.specs.Check.{Accepts, Refuses}
use Rattle.pg_checker.specs.Telling.{Tells}
use Rattle.pg_checker.specs.Terms.{Terms}
use Rattle.pg_checker.specs.declared.certify.Proved.{Proved}
use Rattle.pg_checker.specs.ProblemText.{IsProblemFault}
pub use Rattle.pg_texts.specs.Spelled.{AreSpelled}
pub use Rattle.pg_checker.specs.Answering.{Failures, failures}
use Rattle.pg_checker.specs.declared.fault.ProblemFault.{ProblemFault}
use Rattle.pg_checker.specs.declared.fault.ProblemFault.TheVariants as problem
use Rattle.pg_report.specs.declared.fault.RunFault.{RunFault}
use Rattle.pg_report.specs.declared.fault.RunFault.TheVariants.{Diagram, Length, Games, Check, Write}

-- what is asked: the texts of a diagram, of a length and of a list of games
pub record Texts : Type 0 where
  pub diagram : List ℕ
  pub length : List ℕ
  pub games : List ℕ

-- why two texts are no problem, as why there is no report
abbrev pub of_problem : ProblemFault → RunFault
of_problem (problem.Diagram fault) = Diagram fault
of_problem (problem.Length fault) = Length fault

-- why a check of a list ends without its report: the check does not say yes, for a cause that it has, and the game
-- that it calls unlisted, or of fewer plies, is there; or it did, and the sink has failed
abbrev pub IsCheckFault : Placement → ℕ → List (List Move) → Terms → Failures → RunFault → Type 0
IsCheckFault d n list t failed (Check fault) =
    Accepts t d n list (Err fault) × Refuses t d n list failed.source (Err fault) × Tells d n list (Err fault)
IsCheckFault d n list t failed Write =
    IsExactAnswer d n list × (failed.sink ≡ true) × ((proved : Proved) × Accepts t d n list (Ok proved))
IsCheckFault d n list t failed fault = ⊥

-- the cause lies in the texts alone
abbrev pub IsOfTexts : RunFault → Type 0
IsOfTexts (Check fault) = ⊥
IsOfTexts Write = ⊥
IsOfTexts fault = Unit {0}

-- why three texts and a certificate end without a report: a text is refused, the
-- diagram first, then the length, then the games; else as the check of what they spell
abbrev pub IsRunFault : Texts → Terms → Failures → RunFault → Type 0
IsRunFault asked t failed (Diagram fault) = IsProblemFault asked.diagram asked.length (problem.Diagram fault)
IsRunFault asked t failed (Length fault) = IsProblemFault asked.diagram asked.length (problem.Length fault)
IsRunFault asked t failed (Games fault) =
    ((d : Placement) × (diagram_of (fields asked.diagram) ≡ Ok d)) × ((n : ℕ) × (length_of asked.length ≡ Ok n))
    × IsTextFault asked.games fault
IsRunFault asked t failed fault =
    (d : Placement) × (n : ℕ) × (list : List (List Move)) × AreSpelled asked.diagram asked.length asked.games d n list
    × IsCheckFault d n list t failed fault
