use Rattle.pg_tolls.proofs.Common.{has, count_below}
use Rattle.pg_tolls.proofs.RowLemmas.{IsLeastSoFar}
use Rattle.pg_tolls.proofs.rows.least_of.Given as goal

abbrev pub invariant-loop-square : goal.invariant-loop-square
invariant-loop-square l = IsLeastSoFar l.rows l.fn.squares l.left l.least

abbrev pub decreases-loop-square : goal.decreases-loop-square
decreases-loop-square l = count_below (has l.left) 64
