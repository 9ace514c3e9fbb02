use Rattle.pg_board.proofs.BoardLemmas.{none_sets, first_sets}
use Rattle.pg_board.proofs.board.Board.king.Goals as goal

pub returns-then-kings-eq0 : goal.returns-then-kings-eq0
returns-then-kings-eq0 c = none_sets _ _ c.self.view_is c.self.invariant _ _ (rw c.new.ensures at c.man_set-kings.ensures) c.if-kings-eq0.true

pub returns-else-kings-eq0 : goal.returns-else-kings-eq0
returns-else-kings-eq0 c = first_sets _ _ c.self.view_is c.self.invariant _ _ _ (rw c.new.ensures at c.man_set-kings.ensures) c.if-kings-eq0.false c.at.ensures
