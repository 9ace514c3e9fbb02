use Rattle.pg_checker.proofs.Found.{listed_said}
use Rattle.pg_checker.proofs.finds.counts.Goals as goal

pub returns-in-Some-clause-listed : goal.returns-in-Some-clause-listed
returns-in-Some-clause-listed c = listed_said c.args.games c.in-Some.games c.args.finds.now c.args.game.now c.contains.result c.in-Some.is c.contains.ensures
