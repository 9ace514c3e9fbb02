use Rattle.pg_board.proofs.Common.{has-and}
use Rattle.pg_board.proofs.square_set.SquareSetBitAnd.bitand.Goals as goal

pub returns-clause-members : goal.returns-clause-members
returns-clause-members c q = rw (← c.self.view_is, ← c.other.view_is) (has-and _ _ q)
