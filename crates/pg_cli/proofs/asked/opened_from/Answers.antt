use Rattle.pg_cli.proofs.Common.{ap, AnswerRunFault, Answer}
use Rattle.pg_cli.proofs.asked.opened_from.Goals as goal

pub returns-in-Err : goal.returns-in-Err
returns-in-Err g c = record { named = tt; err = (c.in-Err.fault, ap (λ (x : AnswerRunFault). Answer x) c.of_opening.ensures, c.in-Err.ensures.err) }
