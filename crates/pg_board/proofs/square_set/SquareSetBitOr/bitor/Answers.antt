use Rattle.pg_board.proofs.Common.{or_lt, has-or}
use Rattle.pg_board.proofs.square_set.SquareSetBitOr.bitor.Goals as goal

pub invariant_of-result : goal.invariant_of-result
invariant_of-result c = or_lt 64 _ _ c.self.invariant c.other.invariant

pub returns-clause-members : goal.returns-clause-members
returns-clause-members c q = rw (← c.self.view_is, ← c.other.view_is) (has-or _ _ q)
