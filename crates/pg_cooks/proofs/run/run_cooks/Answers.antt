use Rattle.pg_cooks.proofs.KnownLemmas.{told}
use Rattle.pg_cooks.proofs.run.run_cooks.Goals as goal

pub write_cooks-requires : goal.write_cooks-requires
write_cooks-requires g c = told c.args.problem.now.diagram c.args.problem.now.length c.args.games.now c.in-Ok.answer c.in-Ok.ensures.answer
