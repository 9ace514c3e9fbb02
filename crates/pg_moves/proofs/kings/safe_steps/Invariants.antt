use Rattle.pg_moves.proofs.Common.{has, count_below}
use Rattle.pg_moves.proofs.StepsLemmas.{IsKept}
use Rattle.pg_moves.proofs.kings.safe_steps.Given as goal

abbrev pub invariant-loop-square : goal.invariant-loop-square
invariant-loop-square l = IsKept l.player l.fn.from l.fn.steps l.left l.kept

abbrev pub decreases-loop-square : goal.decreases-loop-square
decreases-loop-square l = count_below (has l.left) 64
