use Rattle.pg_board.proofs.SetLemmas.{last_in}
use Rattle.pg_board.proofs.square_set.SquareSet.last.Goals as goal

pub returns-else-self-eq0 : goal.returns-else-self-eq0
returns-else-self-eq0 c = rw (← c.self.view_is) (last_in _ _ c.self.invariant c.if-self-eq0.false c.at.ensures)
