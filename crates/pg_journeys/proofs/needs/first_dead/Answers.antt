use Rattle.pg_journeys.proofs.FirstDead.{black_first, both_alive}
use Rattle.pg_journeys.proofs.needs.first_dead.Goals as goal

pub returns-then-is_dead-2 : goal.returns-then-is_dead-2
returns-then-is_dead-2 c = black_first c.args.facts.now c.args.course.now.diagram.now c.args.course.now.position.now c.args.course.now.left c.is_dead.result c.is_dead.ensures c.if-is_dead.false (c.is_dead-2.ensures.0 c.if-is_dead-2.true)

pub returns : goal.returns
returns c = both_alive c.args.facts.now c.args.course.now.diagram.now c.args.course.now.position.now c.args.course.now.left c.is_dead.result c.is_dead-2.result c.is_dead.ensures c.if-is_dead.false c.is_dead-2.ensures c.if-is_dead-2.false
