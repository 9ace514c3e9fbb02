use Rattle.pg_board.proofs.SetLemmas.{has-without}
use Rattle.pg_board.proofs.square_set.SquareSetSub.sub.Goals as goal

pub returns-clause-members : goal.returns-clause-members
returns-clause-members c q l = rw (← c.self.view_is, ← c.other.view_is) (has-without _ _ q c.other.invariant l)
