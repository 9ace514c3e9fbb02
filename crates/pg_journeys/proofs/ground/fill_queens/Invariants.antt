use Rattle.pg_journeys.proofs.TableLemmas.{AreQueensTo}
use Rattle.pg_journeys.proofs.ground.fill_queens.Given as goal

abbrev pub invariant-loop-at : goal.invariant-loop-at
invariant-loop-at l = AreQueensTo l.initial.table l.at l.table
