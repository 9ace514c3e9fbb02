use Rattle.pg_journeys.proofs.Common.{◌≡◌, ℕ, subst, arith, known, AheadWithin, TakesAfter, AreWithin}
use Rattle.pg_journeys.proofs.AheadSearches.{ahead_begin, ahead_due, ahead_amid, ahead_ring, ahead_idle, taken_begin, taken_amid, taken_ring, taken_idle}
use Rattle.pg_journeys.proofs.rings.followed.Goals as goal

pub loop-m-init : goal.loop-m-init
loop-m-init c =
    let f = known c.args.ground.now.facts in
    let color = c.args.ground.now.color in
    let man = c.args.man.now in
    record {
      before = ahead_begin f color man.is_quiet man.kind man.square c.only.result c.single.result c.at-front.result c.at-front.ensures.next c.at-front.ensures.none c.only.ensures.here c.only.ensures.others c.single.ensures;
      led = taken_begin f color man.is_quiet man.kind man.square c.at-front.result c.args.taken.now c.at-front.ensures.none c.requires.empty;
    }

pub look_ahead-requires-clause-ready : goal.look_ahead-requires-clause-ready
look_ahead-requires-clause-ready c = ahead_due (known c.args.ground.now.facts) c.args.ground.now.color c.args.man.now.is_quiet c.args.man.now.kind c.args.man.now.square c.loop-m.m c.loop-m.front c.is_idle.new.front c.loop-m.invariant.before c.is_idle.ensures.all

pub loop-m-preserved : goal.loop-m-preserved
loop-m-preserved c =
    let f = known c.args.ground.now.facts in
    let color = c.args.ground.now.color in
    let man = c.args.man.now in
    let after = c.look_ahead.ensures man.kind man.square c.loop-m.m c.index.ensures.bound (ahead_amid f color man.is_quiet man.kind man.square c.loop-m.m c.loop-m.front c.is_idle.new.front c.loop-m.invariant.before c.is_idle.ensures.all)
    (taken_amid f color man.is_quiet man.kind man.square c.loop-m.m c.loop-m.front c.is_idle.new.front c.loop-m.taken c.loop-m.invariant.before c.is_idle.ensures.all c.loop-m.invariant.led) in
    record { before = after.0; led = after.1 }

pub returns-then-is_idle : goal.returns-then-is_idle
returns-then-is_idle c =
    let f = known c.args.ground.now.facts in
    let color = c.args.ground.now.color in
    let man = c.args.man.now in
    record {
      stands = ahead_idle f color man.is_quiet man.kind man.square c.index.ensures.bound c.loop-m.m c.args.n c.loop-m.front c.is_idle.new.front (omega arith) c.loop-m.invariant.before c.is_idle.ensures.all (c.is_idle.ensures.idle c.if-is_idle.true);
      taken = taken_idle f color man.is_quiet man.kind man.square c.loop-m.m c.args.n c.loop-m.front c.is_idle.new.front c.loop-m.taken c.index.ensures.bound (omega arith) c.loop-m.invariant.before c.loop-m.invariant.led c.is_idle.ensures.all (c.is_idle.ensures.idle c.if-is_idle.true);
    }

pub returns-else-is_idle : goal.returns-else-is_idle
returns-else-is_idle c =
    let f = known c.args.ground.now.facts in
    let color = c.args.ground.now.color in
    let man = c.args.man.now in
    let last : c.loop-m.m ≡ c.args.n = omega arith in
    let after = c.look_ahead.ensures man.kind man.square c.loop-m.m c.index.ensures.bound (ahead_amid f color man.is_quiet man.kind man.square c.loop-m.m c.loop-m.front c.is_idle.new.front c.loop-m.invariant.before c.is_idle.ensures.all)
    (taken_amid f color man.is_quiet man.kind man.square c.loop-m.m c.loop-m.front c.is_idle.new.front c.loop-m.taken c.loop-m.invariant.before c.is_idle.ensures.all c.loop-m.invariant.led) in
    record {
      stands = subst (λ (x : ℕ). AreWithin (AheadWithin f color man.is_quiet man.kind man.square) x c.look_ahead.new.front.met) last (ahead_ring f color man.is_quiet man.kind man.square c.index.ensures.bound c.loop-m.m c.look_ahead.new.front after.0);
      taken = subst (λ (x : ℕ). AreWithin (TakesAfter f color man.is_quiet man.kind man.square) x c.look_ahead.new.taken) last (taken_ring f color man.is_quiet man.kind man.square c.loop-m.m c.look_ahead.new.front c.look_ahead.new.taken after.0 after.1);
    }
