use Rattle.pg_cli.proofs.StatusLemmas.{unwritten}
use Rattle.pg_cli.proofs.converting.ends_on.Goals as goal

pub returns-in-Ok-write_ends-clause-err : goal.returns-in-Ok-write_ends-clause-err
returns-in-Ok-write_ends-clause-err g c = unwritten c.finished.result _ _ c.finished.ensures.err (λ failed. failed)
