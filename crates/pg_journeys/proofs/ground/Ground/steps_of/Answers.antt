use Rattle.pg_journeys.proofs.Common.{fewer, known, IsLeg, leg}
use Rattle.pg_journeys.proofs.SiftedSets.{gather_first, gather_next, gather_all}
use Rattle.pg_journeys.proofs.ground.Ground.steps_of.Goals as goal

pub loop-square-init : goal.loop-square-init
loop-square-init c = gather_first (λ r s. IsLeg (known c.args.self.now.facts) c.args.self.now.color (leg c.args.kind r c.args.kind s)) c.args.set c.empty-steps.result c.empty-steps.ensures.none

pub loop-square-smaller : goal.loop-square-smaller
loop-square-smaller c = fewer c.loop-square.left c.pop_first.new.self c.in-Some.square c.in-Some.ensures.taken c.in-Some.ensures.rest

pub loop-square-preserved : goal.loop-square-preserved
loop-square-preserved c = gather_next (λ r s. IsLeg (known c.args.self.now.facts) c.args.self.now.color (leg c.args.kind r c.args.kind s)) c.args.set c.loop-square.left c.pop_first.new.self c.in-Some.square c.loop-square.steps c.steps.result c.bitor-steps.result c.in-Some.ensures.taken c.in-Some.ensures.rest c.steps.ensures c.bitor-steps.ensures.members c.loop-square.invariant

pub returns : goal.returns
returns c = gather_all (λ r s. IsLeg (known c.args.self.now.facts) c.args.self.now.color (leg c.args.kind r c.args.kind s)) c.args.set c.loop-square.left c.loop-square.steps c.in_default.ensures.taken c.loop-square.invariant
