use Rattle.pg_journeys.proofs.Common.{known, IsBackBefore}
use Rattle.pg_journeys.proofs.rings.met_within.Given as goal

abbrev pub invariant-loop-m : goal.invariant-loop-m
invariant-loop-m l = IsBackBefore (known l.ground.facts) l.ground.color l.is_quiet l.fn.goals l.m l.front
