use Rattle.pg_board.proofs.SetLemmas.{none_is_nought}
use Rattle.pg_board.proofs.square_set.SquareSet.is_empty.Goals as goal

pub returns-clause-none : goal.returns-clause-none
returns-clause-none c = rw (← c.self.view_is) (none_is_nought _ c.self.invariant)
