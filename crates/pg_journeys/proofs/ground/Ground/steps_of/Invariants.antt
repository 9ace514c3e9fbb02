use Rattle.pg_journeys.proofs.Common.{has, count_below, known, IsLeg, leg}
use Rattle.pg_journeys.proofs.SiftedSets.{IsGathered}
use Rattle.pg_journeys.proofs.ground.Ground.steps_of.Given as goal

abbrev pub invariant-loop-square : goal.invariant-loop-square
invariant-loop-square l = IsGathered (λ r s. IsLeg (known l.self.facts) l.self.color (leg l.kind r l.kind s)) l.fn.set l.left l.steps

abbrev pub decreases-loop-square : goal.decreases-loop-square
decreases-loop-square l = count_below (has l.left) 64
