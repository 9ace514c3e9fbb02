use Rattle.pg_moves.proofs.Common.{◌≡◌, ◌-◌, ◌+◌, ◌*◌, take, sum_by}
use Rattle.pg_moves.proofs.CountLemmas.{follow}
use Rattle.pg_moves.proofs.counting.+count.Given as goal

-- to hand the same plies on to the sum over the list counts as a step
abbrev pub decreases-count_from : goal.decreases-count_from
decreases-count_from g l = 2 * l.plies + 1

abbrev pub decreases-count_listed : goal.decreases-count_listed
decreases-count_listed g l = 2 * l.plies

abbrev pub invariant-count_listed-loop-m : goal.invariant-count_listed-loop-m
invariant-count_listed-loop-m g l = l.total ≡ sum_by (follow l.position (l.plies - 1)) (take l.m-index l.m-items)
