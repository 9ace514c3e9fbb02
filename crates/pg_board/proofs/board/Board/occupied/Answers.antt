use Rattle.pg_board.proofs.BoardLemmas.{sets_held}
use Rattle.pg_board.proofs.board.Board.occupied.Goals as goal

pub returns : goal.returns
returns c = rw c.of_bits.ensures (sets_held _ _ c.self.view_is c.self.invariant)
