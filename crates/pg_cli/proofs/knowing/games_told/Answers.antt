use Rattle.pg_cli.proofs.StatusLemmas.{tells_why}
use Rattle.pg_cli.proofs.knowing.games_told.Goals as goal

pub returns-clause-err : goal.returns-clause-err
returns-clause-err g c = tells_why c.games_from.result _ _ c.games_from.ensures.err (λ r h. (_, h))
