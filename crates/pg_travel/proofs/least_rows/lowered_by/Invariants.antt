use Rattle.pg_travel.proofs.Common.{None, has, count_below, IsLowered, StandsOff}
use Rattle.pg_travel.proofs.LeastRows.{Taken}
use Rattle.pg_travel.proofs.TakenSets.{AreAll}
use Rattle.pg_travel.proofs.least_rows.lowered_by.Given as goal

abbrev pub invariant-loop-o : goal.invariant-loop-o
invariant-loop-o l = record { is : IsLowered l.rows l.board l.man.color None (Taken (StandsOff l.board l.man l.fn.off) l.own) l.fn.least l.lowest; all : AreAll (StandsOff l.board l.man l.fn.off) l.own }

abbrev pub decreases-loop-o : goal.decreases-loop-o
decreases-loop-o l = count_below (has l.own) 64
