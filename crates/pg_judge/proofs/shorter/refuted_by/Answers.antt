use Rattle.pg_judge.proofs.GameLemmas.{shown_by_shorter}
use Rattle.pg_judge.proofs.shorter.refuted_by.Goals as goal

pub returns-in-Some : goal.returns-in-Some
returns-in-Some c = shown_by_shorter c.args.entry.now.problem.diagram c.args.entry.now.problem.length c.in-Some.game.items c.in-Some.ensures
