use Rattle.pg_board.proofs.BoardLemmas.{write_sets}
use Rattle.pg_board.proofs.board.Board.take.Goals as goal

pub returns-clause-rest : goal.returns-clause-rest
returns-clause-rest c = write_sets _ _ c.self.view_is c.self.invariant _ _ _ _ c.index.ensures.value c.replaced-self-inside.ensures.square
