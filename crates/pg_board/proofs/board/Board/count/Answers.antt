use Rattle.pg_board.proofs.BoardLemmas.{count_sets}
use Rattle.pg_board.proofs.board.Board.count.Goals as goal

pub returns : goal.returns
returns c = count_sets _ _ c.self.view_is c.self.invariant _ _ c.man_set.ensures
