use Rattle.pg_cli.proofs.StatusLemmas.{unwritten}
use Rattle.pg_cli.proofs.converting.pgn_on.Goals as goal

pub returns-in-Ok-write_list-clause-err : goal.returns-in-Ok-write_list-clause-err
returns-in-Ok-write_list-clause-err g c = unwritten c.finished.result _ _ c.finished.ensures.err (λ failed. failed)
