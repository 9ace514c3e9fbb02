use Rattle.pg_journeys.proofs.FirstDead.{asked}
use Rattle.pg_journeys.proofs.needs.dead_color.Goals as goal

pub returns-clause-asks : goal.returns-clause-asks
returns-clause-asks c = asked c.args.diagram.now c.args.position.now c.dead_in_rounds.result c.has_walls.result c.has_fewer.result c.has_few.result c.has_walls.ensures c.if-not-has_walls.false c.has_fewer.ensures c.if-has_fewer.false c.has_few.ensures c.if-not-has_few.false
