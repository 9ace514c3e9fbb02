use Rattle.pg_moves.proofs.ListLemmas.{moves_of, moves_of_is, one_move_list}
use Rattle.pg_moves.proofs.laws.one_move_list.Goals as goal

pub returns : goal.returns
returns c = record { one = one_move_list; some = λ p. (moves_of p, moves_of_is p) }
