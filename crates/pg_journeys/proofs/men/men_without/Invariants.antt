use Rattle.pg_journeys.proofs.Common.{has, count_below, lifted}
use Rattle.pg_journeys.proofs.MenLemmas.{AreFound}
use Rattle.pg_journeys.proofs.men.men_without.Given as goal

abbrev pub invariant-loop-square : goal.invariant-loop-square
invariant-loop-square l = AreFound (lifted l.board l.fn.resting) l.fn.color l.left l.men

abbrev pub decreases-loop-square : goal.decreases-loop-square
decreases-loop-square l = count_below (has l.left) 64
