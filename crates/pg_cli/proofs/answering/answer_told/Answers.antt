use Rattle.pg_cli.proofs.Common.{true}
use Rattle.pg_cli.proofs.StatusLemmas.{tells_why}
use Rattle.pg_cli.proofs.answering.answer_told.Goals as goal

pub returns-then-say_pgn-clause-err : goal.returns-then-say_pgn-clause-err
returns-then-say_pgn-clause-err g c = tells_why c.answer_as_pgn.result _ _ c.answer_as_pgn.ensures.err (λ r h. (true, h))

pub returns-clause-err : goal.returns-clause-err
returns-clause-err g c = tells_why c.answer_on.result _ _ c.answer_on.ensures.err (λ r h. (_, h))
