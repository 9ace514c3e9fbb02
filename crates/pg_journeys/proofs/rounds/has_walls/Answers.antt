use Rattle.pg_journeys.proofs.NextRounds.{walls_kept}
use Rattle.pg_journeys.proofs.rounds.has_walls.Goals as goal

pub returns : goal.returns
returns c = walls_kept c.args.diagram.now c.board-goal.result c.args.position.now c.board.result c.walls.result c.differing.result c.meets.result c.board-goal.ensures.value c.board.ensures.value c.walls.ensures c.differing.ensures c.meets.ensures
