use Rattle.pg_board.proofs.Common.{refl, arith, xor_lt}
use Rattle.pg_board.proofs.SetLemmas.{first_and_before}
use Rattle.pg_board.proofs.square_set.SquareSet.up_to_first.Goals as goal

pub returns : goal.returns
returns c = rw (← c.self.view_is) (first_and_before _ _ c.self.invariant refl)

pub invariant_of-result : goal.invariant_of-result
invariant_of-result c = xor_lt 64 _ _ c.self.invariant (omega arith)
