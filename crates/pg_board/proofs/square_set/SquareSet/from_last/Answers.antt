use Rattle.pg_board.proofs.Common.{refl}
use Rattle.pg_board.proofs.SetLemmas.{last_and_on, or_one_led}
use Rattle.pg_board.proofs.square_set.SquareSet.from_last.Goals as goal

pub returns : goal.returns
returns c = rw (← c.self.view_is) (last_and_on _ _ c.self.invariant refl)

pub overflow_sub-last : goal.overflow_sub-last
overflow_sub-last c = or_one_led _ c.self.invariant
