use Rattle.pg_moves.proofs.Common.{refl, IsFirstOfMan}
use Rattle.pg_moves.proofs.TurnLemmas.{tried_begins}
use Rattle.pg_moves.proofs.turns.begin_tried.Goals as goal

pub returns-in-Some : goal.returns-in-Some
returns-in-Some c = tried_begins c.args.position.now c.args.from c.args.left c.empty-turn.result c.args.source.now c.in-Some.m c.args.turn.now c.requires.source c.requires.tried (rw (c.first.ensures.to, c.first.ensures.number) at c.in-Some.ensures)

pub returns-in-None : goal.returns-in-None
unfolding IsFirstOfMan
returns-in-None c = (refl, rw (c.first.ensures.to, c.first.ensures.number) at c.in-None.ensures)
