use Rattle.pg_board.proofs.Common.{◌∙◌}
use Rattle.pg_board.proofs.BoardLemmas.{get_sets}
use Rattle.pg_board.proofs.board.Board.get.Goals as goal

pub returns : goal.returns
returns c = c.man_at.ensures ∙ get_sets c.self.inside.sets _ c.self.view_is _ _ c.index.ensures.value c.index.ensures.bound
