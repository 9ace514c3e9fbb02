use Rattle.pg_checker.proofs.Common.{sym}
use Rattle.pg_checker.proofs.problem.Problem.read.Goals as goal

pub returns-in-Err-read-clause-err : goal.returns-in-Err-read-clause-err
returns-in-Err-read-clause-err c = ((c.in-Ok.diagram, sym c.in-Ok.ensures.value), sym c.in-Err-read.ensures)
