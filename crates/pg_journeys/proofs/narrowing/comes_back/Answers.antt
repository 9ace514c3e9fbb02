use Rattle.pg_journeys.proofs.Common.{arith}
use Rattle.pg_journeys.proofs.NarrowedSteps.{back_first, back_none, back_last}
use Rattle.pg_journeys.proofs.SideLemmas.{side_ground}
use Rattle.pg_journeys.proofs.narrowing.comes_back.Goals as goal

pub returns-then-takes_back : goal.returns-then-takes_back
returns-then-takes_back c = back_first c.args.side.now c.args.man.now c.args.e c.args.room c.steps-steps.result c.steps-steps.ensures c.takes_back.result c.takes_back.ensures c.if-takes_back.true

pub returns-then-room-eq0 : goal.returns-then-room-eq0
returns-then-room-eq0 c = back_none c.args.side.now c.args.man.now c.args.e c.args.room c.steps-steps.result c.steps-steps.ensures c.takes_back.result c.takes_back.ensures c.if-takes_back.false c.if-room-eq0.true

pub returns : goal.returns
returns c = back_last c.args.side.now c.args.man.now c.args.e c.args.room c.steps-steps.result c.steps-steps.ensures c.takes_back.result c.comes_by.result c.takes_back.ensures c.if-takes_back.false (omega (arith, c.if-room-eq0.false)) c.comes_by.ensures

pub steps-steps-requires-clause-sound : goal.steps-steps-requires-clause-sound
steps-steps-requires-clause-sound c = side_ground c.args.side.now
