use Rattle.pg_moves.proofs.TargetLemmas.{pawn_set}
use Rattle.pg_moves.proofs.targets.pawn_strides.Goals as goal

pub returns : goal.returns
returns c = pawn_set c.args.board.now c.args.color c.args.from c.attacks_from.result c.squares_of_color.result c.in_front.result c.occupied.result c.bitand-taken.result c.sub.result c.bitor.result (rw c.new-pawn.ensures at c.attacks_from.ensures) (rw c.other.ensures at c.squares_of_color.ensures) c.in_front.ensures c.occupied.ensures c.bitand-taken.ensures.members c.sub.ensures.members c.bitor.ensures.members
