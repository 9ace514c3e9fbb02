use Rattle.pg_journeys.proofs.Common.{◌+◌, arith, IsInBoth, TakesAt}
use Rattle.pg_journeys.proofs.NarrowedSteps.{with_set, all_added, all_taken}
use Rattle.pg_journeys.proofs.SiftedSets.{join_first, join_next}
use Rattle.pg_journeys.proofs.SideLemmas.{side_ground}
use Rattle.pg_journeys.proofs.narrowing.lands_to.Goals as goal

pub loop-i-init : goal.loop-i-init
loop-i-init c = join_first (TakesAt c.args.side.now c.args.man.now c.args.e c.args.room) c.empty-all.result

pub loop-i-preserved : goal.loop-i-preserved
loop-i-preserved c =
    join_next (TakesAt c.args.side.now c.args.man.now c.args.e c.args.room) (IsInBoth c.takes_within-taken.result c.aim_within-rest.result) c.empty-all.result c.loop-i.i c.loop-i.all c.bitor-all.result
    (with_set (IsInBoth c.takes_within-taken.result c.aim_within-rest.result) c.loop-i.all c.in_both.result c.bitor-all.result c.in_both.ensures c.bitor-all.ensures.members)
    (λ q l w. (w.0, (c.takes_within-taken.ensures w.0 q l).0 w.1, (c.aim_within-rest.ensures w.0 q l).0 w.2))
    (λ q l w. (w.0, (c.takes_within-taken.ensures w.0 q l).1 w.1, (c.aim_within-rest.ensures w.0 q l).1 w.2)) c.loop-i.invariant

pub returns : goal.returns
returns c = all_taken c.args.side.now c.args.man.now c.args.reach.now c.args.e c.args.room c.last_taking-last.result c.loop-i.all c.requires.reach c.last_taking-last.ensures.low c.last_taking-last.ensures.last
    (all_added (TakesAt c.args.side.now c.args.man.now c.args.e c.args.room) c.empty-all.result c.loop-i.i (c.last_taking-last.result + 1) c.loop-i.all c.empty-all.ensures.none (omega (arith, c.loop-i-test.false, c.loop-i.auto.i-end)) c.loop-i.invariant)

pub takes_within-taken-requires-clause-sound : goal.takes_within-taken-requires-clause-sound
takes_within-taken-requires-clause-sound c = side_ground c.args.side.now
