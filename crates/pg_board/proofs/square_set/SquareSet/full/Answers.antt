use Rattle.pg_board.proofs.SetLemmas.{has-all}
use Rattle.pg_board.proofs.square_set.SquareSet.full.Goals as goal

pub returns : goal.returns
returns c q l = has-all q l
