use Rattle.pg_journeys.proofs.Common.{known}
use Rattle.pg_journeys.proofs.DeadColors.{other_dead}
use Rattle.pg_journeys.proofs.rounds.any_dead.Goals as goal

pub returns-else-is_dead : goal.returns-else-is_dead
returns-else-is_dead c = other_dead (known c.args.facts.now) c.args.course.now.diagram.now c.args.course.now.position.now c.args.course.now.left c.is_dead.result c.is_dead-else-is_dead.result c.is_dead.ensures c.if-is_dead.false c.is_dead-else-is_dead.ensures
