use Rattle.pg_board.proofs.Common.{ones-count}
use Rattle.pg_board.proofs.square_set.SquareSet.len.Goals as goal

pub returns-clause-squares : goal.returns-clause-squares
returns-clause-squares c = rw (← c.self.view_is) (ones-count 64 _ c.self.invariant)
