use Rattle.pg_moves.proofs.StepLemmas.{first_set}
use Rattle.pg_moves.proofs.men.first_step.Goals as goal

pub returns : goal.returns
returns c = first_set c.args.board.now c.args.color c.args.from c.ahead.result c.single.result c.occupied.result c.sub.result c.index.ensures.bound c.requires c.ahead.ensures c.single.ensures c.occupied.ensures c.sub.ensures.members
