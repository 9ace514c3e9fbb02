use Rattle.pg_journeys.proofs.NextRounds.{kept_set}
use Rattle.pg_journeys.proofs.rounds.stays.Goals as goal

pub returns : goal.returns
returns c = kept_set c.args.diagram.now c.board.result c.board-board.result c.args.position.now.board c.args.color c.squares_of_color.result c.differing.result c.sub.result c.args.shown.now.changed c.sub-2.result c.board.ensures.value c.board-board.ensures.value c.squares_of_color.ensures c.differing.ensures c.sub.ensures.members c.sub-2.ensures.members
