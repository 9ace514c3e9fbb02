-- What the check of a list says, handed on to the run over texts. Leads to the contract of `run_check`.
use Rattle.pg_report.proofs.Common.{ℕ, List, Placement, Move, RunFault, Terms, AreSpelled, Failures, IsCheckFault, IsOfTexts, IsRunFault, Texts, of_problem}
use Rattle.pg_report.specs.declared.fault.RunFault.TheVariants.{Diagram, Length, Games, Check, Write}
use Rattle.pg_checker.specs.declared.fault.ProblemFault.{ProblemFault}
use Rattle.pg_checker.specs.declared.fault.ProblemFault.TheVariants as problem
use Rattle.pg_checker.specs.ProblemText.{IsProblemFault}

pub refused_with : (asked : Texts) (t : Terms) (failed : Failures) (d : Placement) (n : ℕ) (list : List (List Move)) (e : RunFault)
    → AreSpelled asked.diagram asked.length asked.games d n list → IsCheckFault d n list t failed e → IsRunFault asked t failed e
refused_with asked t failed d n list (Diagram f) spelled h = absurd h
refused_with asked t failed d n list (Length f) spelled h = absurd h
refused_with asked t failed d n list (Games f) spelled h = absurd h
refused_with asked t failed d n list (Check f) spelled h = (d, n, list, spelled, h)
refused_with asked t failed d n list Write spelled h = (d, n, list, spelled, h)

-- a refusal of the first two texts
pub no_problem : (asked : Texts) (t : Terms) (failed : Failures) (e : ProblemFault) → IsProblemFault asked.diagram asked.length e → IsRunFault asked t failed (of_problem e)
no_problem asked t failed (problem.Diagram f) h = h
no_problem asked t failed (problem.Length f) h = h

-- what a check refuses does not lie in the texts
pub not_of_texts : (d : Placement) (n : ℕ) (list : List (List Move)) (t : Terms) (failed : Failures) (e : RunFault) → IsCheckFault d n list t failed e → ¬ IsOfTexts e
not_of_texts d n list t failed (Diagram f) h o = absurd h
not_of_texts d n list t failed (Length f) h o = absurd h
not_of_texts d n list t failed (Games f) h o = absurd h
not_of_texts d n list t failed (Check f) h o = absurd o
not_of_texts d n list t failed Write h o = absurd o
