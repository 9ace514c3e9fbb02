use Rattle.pg_travel.proofs.Common.{◌≡◌, Some, has, get, count_below}
use Rattle.pg_travel.proofs.SourceLemmas.{AreSeen}
use Rattle.pg_travel.proofs.TakenSets.{AreAll}
use Rattle.pg_travel.proofs.sources.men_fit.Given as goal

abbrev pub invariant-loop-s : goal.invariant-loop-s
invariant-loop-s l = record { seen : AreSeen l.rows l.board l.way l.u l.v l.man l.men; all : AreAll (λ q. get l.board q ≡ Some l.man) l.men }

abbrev pub decreases-loop-s : goal.decreases-loop-s
decreases-loop-s l = count_below (has l.men) 64
