use Rattle.pg_board.proofs.MovedSets.{board_moved}
use Rattle.pg_board.proofs.board.Board.relocate.Goals as goal

pub returns : goal.returns
returns c = board_moved c.relocated-self-inside.result c.self.inside.sets _ c.self.view_is _ _ _ _ c.index.ensures.value c.index-2.ensures.value c.index.ensures.bound c.index-2.ensures.bound c.relocated-self-inside.ensures.men
