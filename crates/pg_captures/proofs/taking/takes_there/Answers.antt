use Rattle.pg_captures.proofs.TakingTold.{enemy_told}
use Rattle.pg_captures.proofs.taking.takes_there.Goals as goal

pub returns : goal.returns
returns c = enemy_told c.args.position.now.board c.board.result c.args.position.now.side c.side.result c.other.result c.squares_of_color-theirs.result c.args.m.now.to c.contains.result c.board.ensures.value c.side.ensures.value c.other.ensures c.squares_of_color-theirs.ensures c.contains.ensures.value c.contains.ensures.bound
