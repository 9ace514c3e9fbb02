use Rattle.pg_journeys.proofs.Common.{known, AheadWithin, TakesAfter, IsAheadBefore, AreTakenBefore}
use Rattle.pg_journeys.proofs.RingLemmas.{AreKept}
use Rattle.pg_journeys.proofs.rings.reach_of.Given as goal

abbrev pub invariant-loop-n : goal.invariant-loop-n
invariant-loop-n l = record {
  before : IsAheadBefore (known l.ground.facts) l.ground.color l.man.is_quiet l.man.kind l.man.square l.n l.front;
  led : AreTakenBefore (known l.ground.facts) l.ground.color l.man.is_quiet l.man.kind l.man.square l.n l.front l.taken;
  stands : AreKept (AheadWithin (known l.ground.facts) l.ground.color l.man.is_quiet l.man.kind l.man.square) l.n l.reach.stands;
  takes : AreKept (TakesAfter (known l.ground.facts) l.ground.color l.man.is_quiet l.man.kind l.man.square) l.n l.reach.taken;
}
