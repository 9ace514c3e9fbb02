use Rattle.pg_board.proofs.Common.{is_light, bits_below, has-bits_below}
use Rattle.pg_board.proofs.square_set.SquareSet.light.Goals as goal

pub returns : goal.returns
unfolding bits_below
returns c q l = has-bits_below is_light 64 q l
