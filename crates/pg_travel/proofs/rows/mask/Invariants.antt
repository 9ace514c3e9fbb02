use Rattle.pg_travel.proofs.Common.{◌≡◌, Some, has, get, count_below}
use Rattle.pg_travel.proofs.MakingRows.{IsGoing}
use Rattle.pg_travel.proofs.TakenSets.{AreAll}
use Rattle.pg_travel.proofs.rows.mask.Given as goal

abbrev pub invariant-loop-t : goal.invariant-loop-t
invariant-loop-t l = record { going : IsGoing l.goal l.fn.man.color l.fn.man.kind l.first (λ t. 0) l.left l.initial.all l.all; all : AreAll (λ q. get l.goal q ≡ Some l.fn.man) l.left }

abbrev pub decreases-loop-t : goal.decreases-loop-t
decreases-loop-t l = count_below (has l.left) 64
