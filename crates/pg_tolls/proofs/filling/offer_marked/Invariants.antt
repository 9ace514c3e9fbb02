use Rattle.pg_tolls.proofs.Common.{has, count_below, known, stated, KeepsTakes}
use Rattle.pg_tolls.proofs.filling.offer_marked.Given as goal

abbrev pub invariant-loop-square : goal.invariant-loop-square
invariant-loop-square l = KeepsTakes (stated l.tariff) (known l.ground.facts) l.ground.color l.kind l.before l.initial.rows l.rows

abbrev pub decreases-loop-square : goal.decreases-loop-square
decreases-loop-square l = count_below (has l.left) 64
