use Rattle.pg_board.proofs.SetLemmas.{meets_decides}
use Rattle.pg_board.proofs.square_set.SquareSet.meets.Goals as goal

pub returns : goal.returns
returns c = rw (← c.self.view_is, ← c.other.view_is) (meets_decides _ _ c.self.invariant)
