use Rattle.pg_board.proofs.BoardLemmas.{empty_sets}
use Rattle.pg_board.proofs.board.Board.empty.Goals as goal

pub returns : goal.returns
returns c = empty_sets
