use Rattle.pg_moves.proofs.StepLemmas.{advances_set}
use Rattle.pg_moves.proofs.men.pawn_advances.Goals as goal

pub returns : goal.returns
returns c = advances_set c.args.board.now c.args.color c.args.from c.attacks_from.result c.squares_of_color.result c.bitand-taken.result c.first_step-once.result c.bitor-near.result c.second_step.result c.bitor.result (rw c.new-pawn.ensures at c.attacks_from.ensures) (rw c.other.ensures at c.squares_of_color.ensures) c.bitand-taken.ensures.members c.first_step-once.ensures c.bitor-near.ensures.members c.second_step.ensures c.bitor.ensures.members
