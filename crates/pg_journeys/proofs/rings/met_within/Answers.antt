use Rattle.pg_journeys.proofs.Common.{◌≡◌, ℕ, subst, arith, known, BackWithin, AreWithin}
use Rattle.pg_journeys.proofs.BackSearches.{back_begin, back_due, back_amid, back_ring, back_idle}
use Rattle.pg_journeys.proofs.rings.met_within.Goals as goal

pub loop-m-init : goal.loop-m-init
loop-m-init c = back_begin (known c.args.ground.now.facts) c.args.ground.now.color c.args.is_quiet c.args.goals.now c.at-front.result c.at-front.ensures.next c.at-front.ensures.none

pub look_back-requires-clause-ready : goal.look_back-requires-clause-ready
look_back-requires-clause-ready c = back_due (known c.args.ground.now.facts) c.args.ground.now.color c.args.is_quiet c.args.goals.now c.loop-m.m c.loop-m.front c.is_idle.new.front c.loop-m.invariant c.is_idle.ensures.all

pub loop-m-preserved : goal.loop-m-preserved
loop-m-preserved c = c.look_back.ensures c.args.goals.now c.loop-m.m (back_amid (known c.args.ground.now.facts) c.args.ground.now.color c.args.is_quiet c.args.goals.now c.loop-m.m c.loop-m.front c.is_idle.new.front c.loop-m.invariant c.is_idle.ensures.all)

pub returns-then-is_idle : goal.returns-then-is_idle
returns-then-is_idle c = back_idle (known c.args.ground.now.facts) c.args.ground.now.color c.args.is_quiet c.args.goals.now c.loop-m.m c.args.n c.loop-m.front c.is_idle.new.front (omega arith) c.loop-m.invariant c.is_idle.ensures.all (c.is_idle.ensures.idle c.if-is_idle.true)

pub returns-else-is_idle : goal.returns-else-is_idle
returns-else-is_idle c =
    let f = known c.args.ground.now.facts in
    let color = c.args.ground.now.color in
    let last : c.loop-m.m ≡ c.args.n = omega arith in
    subst (λ (x : ℕ). AreWithin (BackWithin f color c.args.is_quiet c.args.goals.now) x c.look_back.new.front.met) last (back_ring f color c.args.is_quiet c.args.goals.now c.loop-m.m c.look_back.new.front
    (c.look_back.ensures c.args.goals.now c.loop-m.m (back_amid f color c.args.is_quiet c.args.goals.now c.loop-m.m c.loop-m.front c.is_idle.new.front c.loop-m.invariant c.is_idle.ensures.all)))
