use Rattle.pg_moves.proofs.ListLemmas.{moves_of, moves_of_is}
use Rattle.pg_moves.proofs.PlayLemmas.{play_of, play_of_is}
use Rattle.pg_moves.proofs.laws.moves_and_play_are_functions.Goals as goal

pub returns : goal.returns
returns c = (moves_of, play_of, moves_of_is, play_of_is)
