use Rattle.pg_travel.proofs.Common.{◌≡◌, Some, has, man, get, count_below, stored, distance_of}
use Rattle.pg_travel.proofs.MakingRows.{IsGoing}
use Rattle.pg_travel.proofs.TakenSets.{AreAll}
use Rattle.pg_travel.proofs.rows.with_kind.Given as goal

abbrev pub invariant-loop-t : goal.invariant-loop-t
invariant-loop-t l = record { going : IsGoing l.goal l.man.color l.kind l.first (λ t. stored (distance_of l.man.color l.kind l.man.kind l.from t)) l.left l.fn.row l.all; all : AreAll (λ q. get l.goal q ≡ Some (man l.man.color l.kind)) l.left }

abbrev pub decreases-loop-t : goal.decreases-loop-t
decreases-loop-t l = count_below (has l.left) 64
