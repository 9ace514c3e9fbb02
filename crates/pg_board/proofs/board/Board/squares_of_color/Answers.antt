use Rattle.pg_board.proofs.Common.{◌∙◌}
use Rattle.pg_board.proofs.BoardLemmas.{sets_of_color}
use Rattle.pg_board.proofs.board.Board.squares_of_color.Goals as goal

pub returns : goal.returns
returns c = sets_of_color _ _ c.self.view_is c.self.invariant _ _ (c.of_bits.ensures ∙ c.color_set.ensures)
