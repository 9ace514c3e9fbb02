use Rattle.pg_journeys.proofs.Common.{known, IsAheadBefore, AreTakenBefore}
use Rattle.pg_journeys.proofs.rings.followed.Given as goal

abbrev pub invariant-loop-m : goal.invariant-loop-m
invariant-loop-m l = record {
  before : IsAheadBefore (known l.ground.facts) l.ground.color l.man.is_quiet l.man.kind l.man.square l.m l.front;
  led : AreTakenBefore (known l.ground.facts) l.ground.color l.man.is_quiet l.man.kind l.man.square l.m l.front l.taken;
}
