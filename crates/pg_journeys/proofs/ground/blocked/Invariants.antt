use Rattle.pg_journeys.proofs.Common.{has, count_below}
use Rattle.pg_journeys.proofs.TableLemmas.{IsBlocking}
use Rattle.pg_journeys.proofs.ground.blocked.Given as goal

abbrev pub invariant-loop-square : goal.invariant-loop-square
invariant-loop-square l = IsBlocking l.fn.set l.left l.board

abbrev pub decreases-loop-square : goal.decreases-loop-square
decreases-loop-square l = count_below (has l.left) 64
