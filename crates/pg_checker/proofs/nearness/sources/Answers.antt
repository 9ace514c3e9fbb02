use Rattle.pg_checker.proofs.Leading.{sources_hold}
use Rattle.pg_checker.proofs.nearness.sources.Goals as goal

pub returns : goal.returns
returns c = sources_hold c.args.position.now c.args.diagram.now c.args.squares c.requires.squares c.side.ensures.position c.board.result c.board-2.result c.side.result c.squares_of_color.result c.occupied.result c.bitand-own.result c.sub.result c.board.ensures.value c.board-2.ensures.value c.side.ensures.value c.squares_of_color.ensures c.occupied.ensures c.bitand-own.ensures.members c.sub.ensures.members
