use Rattle.pg_journeys.proofs.Common.{known, BackWithin, IsBackBefore}
use Rattle.pg_journeys.proofs.RingLemmas.{AreKept}
use Rattle.pg_journeys.proofs.rings.rings_to.Given as goal

abbrev pub invariant-loop-n : goal.invariant-loop-n
invariant-loop-n l = record {
  before : IsBackBefore (known l.ground.facts) l.ground.color l.is_quiet l.fn.goals l.n l.front;
  kept : AreKept (BackWithin (known l.ground.facts) l.ground.color l.is_quiet l.fn.goals) l.n l.rings;
}
