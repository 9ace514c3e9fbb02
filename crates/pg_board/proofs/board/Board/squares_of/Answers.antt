use Rattle.pg_board.proofs.Common.{◌∙◌}
use Rattle.pg_board.proofs.BoardLemmas.{sets_of_man}
use Rattle.pg_board.proofs.board.Board.squares_of.Goals as goal

pub returns : goal.returns
returns c = sets_of_man _ _ c.self.view_is c.self.invariant _ _ (c.of_bits.ensures ∙ c.man_set.ensures)
