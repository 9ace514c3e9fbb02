use Rattle.pg_board.proofs.Common.{◌∙◌}
use Rattle.pg_board.proofs.BoardLemmas.{sets_differ}
use Rattle.pg_board.proofs.board.Board.differing.Goals as goal

pub returns : goal.returns
returns c = sets_differ _ _ _ _ c.self.view_is c.other.view_is c.self.invariant c.other.invariant _ (c.of_bits.ensures ∙ c.differing.ensures)
