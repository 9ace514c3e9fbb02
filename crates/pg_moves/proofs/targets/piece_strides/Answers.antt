use Rattle.pg_moves.proofs.TargetLemmas.{piece_set}
use Rattle.pg_moves.proofs.targets.piece_strides.Goals as goal

pub returns : goal.returns
returns c = piece_set c.args.board.now c.args.color c.args.kind c.args.from c.attacks_from.result c.squares_of_color.result c.sub.result c.requires (rw c.new.ensures at c.attacks_from.ensures) c.squares_of_color.ensures c.sub.ensures.members
