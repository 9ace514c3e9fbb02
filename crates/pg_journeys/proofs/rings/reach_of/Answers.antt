use Rattle.pg_journeys.proofs.Common.{◌+◌, true, arith, refl, known, AheadWithin, TakesAfter}
use Rattle.pg_journeys.proofs.AheadSearches.{ahead_begin, ahead_due, ahead_amid, ahead_kept, ahead_whole, taken_begin, taken_amid, taken_kept, taken_whole}
use Rattle.pg_journeys.proofs.RingLemmas.{kept_none, rings_open, rings_whole}
use Rattle.pg_journeys.proofs.rings.reach_of.Goals as goal

pub loop-n-init : goal.loop-n-init
loop-n-init c =
    let f = known c.args.ground.now.facts in
    let color = c.args.ground.now.color in
    let man = c.args.man.now in
    record {
      before = ahead_begin f color man.is_quiet man.kind man.square c.only.result c.single.result c.at-front.result c.at-front.ensures.next c.at-front.ensures.none c.only.ensures.here c.only.ensures.others c.single.ensures;
      led = taken_begin f color man.is_quiet man.kind man.square c.at-front.result c.nobody-taken.result c.at-front.ensures.none c.nobody-taken.ensures;
      stands = kept_none (AheadWithin f color man.is_quiet man.kind man.square) c.clear.new.self c.clear.ensures.none c.clear.ensures.open;
      takes = kept_none (TakesAfter f color man.is_quiet man.kind man.square) c.clear-2.new.self c.clear-2.ensures.none c.clear-2.ensures.open;
    }

pub look_ahead-requires-clause-ready : goal.look_ahead-requires-clause-ready
look_ahead-requires-clause-ready c = ahead_due (known c.args.ground.now.facts) c.args.ground.now.color c.args.man.now.is_quiet c.args.man.now.kind c.args.man.now.square c.loop-n.n c.loop-n.front c.is_idle.new.front c.loop-n.invariant.before c.is_idle.ensures.all

pub keep-requires : goal.keep-requires
keep-requires c = omega (arith, c.loop-n.invariant.stands.count, c.min-n-end.ensures)

pub keep-requires-in-loop-n : goal.keep-requires-in-loop-n
keep-requires-in-loop-n c = omega (arith, c.loop-n.invariant.takes.count, c.min-n-end.ensures)

pub loop-n-preserved : goal.loop-n-preserved
loop-n-preserved c =
    let f = known c.args.ground.now.facts in
    let color = c.args.ground.now.color in
    let man = c.args.man.now in
    let after = c.look_ahead.ensures man.kind man.square c.loop-n.n c.index.ensures.bound (ahead_amid f color man.is_quiet man.kind man.square c.loop-n.n c.loop-n.front c.is_idle.new.front c.loop-n.invariant.before c.is_idle.ensures.all)
    (taken_amid f color man.is_quiet man.kind man.square c.loop-n.n c.loop-n.front c.is_idle.new.front c.loop-n.taken c.loop-n.invariant.before c.is_idle.ensures.all c.loop-n.invariant.led) in
    record {
      before = after.0;
      led = after.1;
      stands = ahead_kept f color man.is_quiet man.kind man.square c.loop-n.n c.look_ahead.new.front c.loop-n.reach.stands c.keep.new.self c.met_of.result c.index.ensures.bound after.0 c.met_of.ensures c.loop-n.invariant.stands c.keep.ensures.more c.keep.ensures.here c.keep.ensures.before c.keep.ensures.same;
      takes = taken_kept f color man.is_quiet man.kind man.square c.loop-n.n c.look_ahead.new.front c.loop-n.reach.taken c.keep-in-loop-n.new.self c.look_ahead.new.taken after.0 after.1 c.loop-n.invariant.takes c.keep-in-loop-n.ensures.more c.keep-in-loop-n.ensures.here c.keep-in-loop-n.ensures.before c.keep-in-loop-n.ensures.same;
    }

pub returns-then-is_idle : goal.returns-then-is_idle
returns-then-is_idle c =
    let f = known c.args.ground.now.facts in
    let color = c.args.ground.now.color in
    let man = c.args.man.now in
    let idle = c.is_idle.ensures.idle c.if-is_idle.true in
    record {
      stands = rings_whole (AheadWithin f color man.is_quiet man.kind man.square) c.loop-n.n c.loop-n.reach.stands (record { sets = c.loop-n.reach.stands.sets; count = c.loop-n.reach.stands.count; is_whole = true }) (c.is_idle.ensures.some c.if-is_idle.true) (omega (arith, c.min-n-end.ensures)) refl refl c.loop-n.invariant.stands
          (λ m. ahead_whole f color man.is_quiet man.kind man.square c.index.ensures.bound c.loop-n.n m c.loop-n.front c.is_idle.new.front c.loop-n.invariant.before c.is_idle.ensures.all idle);
      taken = rings_whole (TakesAfter f color man.is_quiet man.kind man.square) c.loop-n.n c.loop-n.reach.taken (record { sets = c.loop-n.reach.taken.sets; count = c.loop-n.reach.taken.count; is_whole = true }) (c.is_idle.ensures.some c.if-is_idle.true) (omega (arith, c.min-n-end.ensures)) refl refl c.loop-n.invariant.takes
          (λ m. taken_whole f color man.is_quiet man.kind man.square c.loop-n.n m c.loop-n.front c.is_idle.new.front c.index.ensures.bound c.loop-n.invariant.before c.is_idle.ensures.all idle);
    }

pub returns-else-is_idle : goal.returns-else-is_idle
returns-else-is_idle c =
    let f = known c.args.ground.now.facts in
    let color = c.args.ground.now.color in
    let man = c.args.man.now in
    let after = c.look_ahead.ensures man.kind man.square c.loop-n.n c.index.ensures.bound (ahead_amid f color man.is_quiet man.kind man.square c.loop-n.n c.loop-n.front c.is_idle.new.front c.loop-n.invariant.before c.is_idle.ensures.all)
    (taken_amid f color man.is_quiet man.kind man.square c.loop-n.n c.loop-n.front c.is_idle.new.front c.loop-n.taken c.loop-n.invariant.before c.is_idle.ensures.all c.loop-n.invariant.led) in
    record {
      stands = rings_open (AheadWithin f color man.is_quiet man.kind man.square) (c.loop-n.n + 1) c.keep.new.self (omega arith) (omega (arith, c.min-n-end.ensures))
          (ahead_kept f color man.is_quiet man.kind man.square c.loop-n.n c.look_ahead.new.front c.loop-n.reach.stands c.keep.new.self c.met_of.result c.index.ensures.bound after.0 c.met_of.ensures c.loop-n.invariant.stands c.keep.ensures.more c.keep.ensures.here c.keep.ensures.before c.keep.ensures.same);
      taken = rings_open (TakesAfter f color man.is_quiet man.kind man.square) (c.loop-n.n + 1) c.keep-in-loop-n.new.self (omega arith) (omega (arith, c.min-n-end.ensures))
          (taken_kept f color man.is_quiet man.kind man.square c.loop-n.n c.look_ahead.new.front c.loop-n.reach.taken c.keep-in-loop-n.new.self c.look_ahead.new.taken after.0 after.1 c.loop-n.invariant.takes c.keep-in-loop-n.ensures.more c.keep-in-loop-n.ensures.here c.keep-in-loop-n.ensures.before c.keep-in-loop-n.ensures.same);
    }
