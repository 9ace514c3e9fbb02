use Rattle.pg_journeys.proofs.Common.{known}
use Rattle.pg_journeys.proofs.LastRounds.{lost_wall, lacks_men, crowded, not_few, first_hold, walk_hold, walk_last, walk_first, walk_some, walk_none}
use Rattle.pg_journeys.proofs.rounds.facts_by.Goals as goal

pub returns-then-not-has_walls-clause-none : goal.returns-then-not-has_walls-clause-none
returns-then-not-has_walls-clause-none c = lost_wall c.args.diagram.now c.args.position.now c.args.left c.has_walls.result c.has_walls.ensures c.if-not-has_walls.true

pub returns-then-has_fewer-clause-none : goal.returns-then-has_fewer-clause-none
returns-then-has_fewer-clause-none c = lacks_men c.args.diagram.now c.args.position.now c.args.left (c.has_fewer.ensures.0 c.if-has_fewer.true)

pub returns-then-not-has_few-clause-holds : goal.returns-then-not-has_few-clause-holds
returns-then-not-has_few-clause-holds c = first_hold c.args.diagram.now c.args.position.now c.args.left (known c.first_facts.result) c.has_walls.result c.side.ensures.position c.has_walls.ensures c.if-not-has_walls.false c.first_facts.ensures

pub returns-then-not-has_few-clause-some : goal.returns-then-not-has_few-clause-some
returns-then-not-has_few-clause-some c = crowded c.args.diagram.now c.args.position.now c.args.left c.has_walls.result c.has_fewer.result c.has_few.result c.has_walls.ensures c.if-not-has_walls.false c.has_fewer.ensures c.if-has_fewer.false c.has_few.ensures c.if-not-has_few.true

pub returns-clause-holds : goal.returns-clause-holds
returns-clause-holds c = walk_hold c.args.diagram.now c.args.position.now c.args.left c.last_facts.result c.has_walls.result c.side.ensures.position c.has_walls.ensures c.if-not-has_walls.false c.last_facts.ensures.facts

pub returns-clause-some : goal.returns-clause-some
returns-clause-some c = walk_some c.args.diagram.now c.args.position.now c.args.left c.last_facts.result c.has_walls.result c.has_fewer.result c.has_walls.ensures c.if-not-has_walls.false c.has_fewer.ensures c.if-has_fewer.false c.last_facts.ensures.alive

pub returns-clause-none : goal.returns-clause-none
returns-clause-none c = walk_none c.args.diagram.now c.args.position.now c.args.left c.last_facts.result c.has_few.result c.has_few.ensures c.if-not-has_few.false c.last_facts.ensures.dead

pub returns-then-not-has_few-clause-last : goal.returns-then-not-has_few-clause-last
returns-then-not-has_few-clause-last c = not_few c.args.position.now c.has_few.result c.has_few.ensures c.if-not-has_few.true

pub returns-clause-last : goal.returns-clause-last
returns-clause-last c = walk_last c.args.diagram.now c.args.position.now c.args.left c.last_facts.result c.last_facts.ensures.facts

pub returns-clause-first : goal.returns-clause-first
returns-clause-first c = walk_first c.args.diagram.now c.args.position.now c.last_facts.result c.has_few.result c.has_few.ensures c.if-not-has_few.false
