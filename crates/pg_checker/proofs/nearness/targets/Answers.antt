use Rattle.pg_checker.proofs.Leading.{targets_hold}
use Rattle.pg_checker.proofs.nearness.targets.Goals as goal

pub returns : goal.returns
returns c = targets_hold c.args.position.now c.args.diagram.now c.args.squares c.requires.squares c.side.ensures.position c.board.result c.side.result c.squares_of_color.result c.bitand.result c.board.ensures.value c.side.ensures.value c.squares_of_color.ensures c.bitand.ensures.members
