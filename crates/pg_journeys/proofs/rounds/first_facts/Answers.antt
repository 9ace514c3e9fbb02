use Rattle.pg_journeys.proofs.NextRounds.{first_of}
use Rattle.pg_journeys.proofs.rounds.first_facts.Goals as goal

pub returns : goal.returns
returns c = first_of c.args.diagram.now c.board-goal.result c.args.position.now c.board-board.result c.walls-walls.result c.first_landing.result c.first_landing-2.result c.board-goal.ensures.value c.board-board.ensures.value c.walls-walls.ensures c.first_landing.ensures c.first_landing-2.ensures
