use Rattle.pg_cli.proofs.Common.{ℕ, List, sym, subst, Option}
use Rattle.pg_cli.proofs.EndLemmas.{begun_of}
use Rattle.pg_cli.proofs.asked.carried_from.Goals as goal

pub returns-in-Ok-clause-ok : goal.returns-in-Ok-clause-ok
returns-in-Ok-clause-ok g c = begun_of (g.F.Read.remaining c.args.file) _ _ _ _ c.in-Ok.ensures.ok c.of.ensures.left c.of.ensures.stated
