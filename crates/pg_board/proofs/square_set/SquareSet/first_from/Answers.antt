use Rattle.pg_board.proofs.Common.{arith}
use Rattle.pg_board.proofs.SetLemmas.{place_none, place_first}
use Rattle.pg_board.proofs.square_set.SquareSet.first_from.Goals as goal

pub returns-then-rest-eq0 : goal.returns-then-rest-eq0
returns-then-rest-eq0 c = rw (← c.self.view_is) (place_none _ _ (omega arith) c.if-rest-eq0.true)

pub returns-else-rest-eq0 : goal.returns-else-rest-eq0
returns-else-rest-eq0 c = rw (← c.self.view_is) (place_first _ _ _ (omega arith) c.self.invariant c.if-rest-eq0.false c.at.ensures)
