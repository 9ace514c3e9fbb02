use Rattle.pg_moves.proofs.Common.{has, count_below}
use Rattle.pg_moves.proofs.OffLemmas.{IsTaking}
use Rattle.pg_moves.proofs.leaves.count_of_men.Given as goal

abbrev pub invariant-loop-from : goal.invariant-loop-from
invariant-loop-from l = IsTaking l.player l.fn.men l.left l.total

abbrev pub decreases-loop-from : goal.decreases-loop-from
decreases-loop-from l = count_below (has l.left) 64
