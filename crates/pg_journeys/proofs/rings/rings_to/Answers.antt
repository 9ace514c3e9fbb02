use Rattle.pg_journeys.proofs.Common.{◌+◌, true, arith, refl, known, BackWithin}
use Rattle.pg_journeys.proofs.BackSearches.{back_begin, back_due, back_amid, back_kept, back_whole}
use Rattle.pg_journeys.proofs.RingLemmas.{kept_none, rings_open, rings_whole}
use Rattle.pg_journeys.proofs.rings.rings_to.Goals as goal

pub loop-n-init : goal.loop-n-init
loop-n-init c = record {
  before = back_begin (known c.args.ground.now.facts) c.args.ground.now.color c.args.is_quiet c.args.goals c.at-front.result c.at-front.ensures.next c.at-front.ensures.none;
  kept = kept_none (BackWithin (known c.args.ground.now.facts) c.args.ground.now.color c.args.is_quiet c.args.goals) c.clear.new.self c.clear.ensures.none c.clear.ensures.open;
}

pub look_back-requires-clause-ready : goal.look_back-requires-clause-ready
look_back-requires-clause-ready c = back_due (known c.args.ground.now.facts) c.args.ground.now.color c.args.is_quiet c.args.goals c.loop-n.n c.loop-n.front c.is_idle.new.front c.loop-n.invariant.before c.is_idle.ensures.all

pub keep-requires : goal.keep-requires
keep-requires c = omega (arith, c.loop-n.invariant.kept.count, c.min-n-end.ensures)

pub loop-n-preserved : goal.loop-n-preserved
loop-n-preserved c =
    let f = known c.args.ground.now.facts in
    let color = c.args.ground.now.color in
    let after = c.look_back.ensures c.args.goals c.loop-n.n (back_amid f color c.args.is_quiet c.args.goals c.loop-n.n c.loop-n.front c.is_idle.new.front c.loop-n.invariant.before c.is_idle.ensures.all) in
    record {
      before = after;
      kept = back_kept f color c.args.is_quiet c.args.goals c.loop-n.n c.look_back.new.front c.loop-n.rings c.keep.new.self c.met_of.result after c.met_of.ensures c.loop-n.invariant.kept c.keep.ensures.more c.keep.ensures.here c.keep.ensures.before c.keep.ensures.same;
    }

pub returns-then-is_idle : goal.returns-then-is_idle
returns-then-is_idle c =
    let f = known c.args.ground.now.facts in
    let color = c.args.ground.now.color in
    rings_whole (BackWithin f color c.args.is_quiet c.args.goals) c.loop-n.n c.loop-n.rings (record { sets = c.loop-n.rings.sets; count = c.loop-n.rings.count; is_whole = true }) (c.is_idle.ensures.some c.if-is_idle.true) (omega (arith, c.min-n-end.ensures)) refl refl c.loop-n.invariant.kept
    (λ m. back_whole f color c.args.is_quiet c.args.goals c.loop-n.n m c.loop-n.front c.is_idle.new.front c.loop-n.invariant.before c.is_idle.ensures.all (c.is_idle.ensures.idle c.if-is_idle.true))

pub returns-else-is_idle : goal.returns-else-is_idle
returns-else-is_idle c =
    let f = known c.args.ground.now.facts in
    let color = c.args.ground.now.color in
    let after = c.look_back.ensures c.args.goals c.loop-n.n (back_amid f color c.args.is_quiet c.args.goals c.loop-n.n c.loop-n.front c.is_idle.new.front c.loop-n.invariant.before c.is_idle.ensures.all) in
    rings_open (BackWithin f color c.args.is_quiet c.args.goals) (c.loop-n.n + 1) c.keep.new.self (omega arith) (omega (arith, c.min-n-end.ensures))
    (back_kept f color c.args.is_quiet c.args.goals c.loop-n.n c.look_back.new.front c.loop-n.rings c.keep.new.self c.met_of.result after c.met_of.ensures c.loop-n.invariant.kept c.keep.ensures.more c.keep.ensures.here c.keep.ensures.before c.keep.ensures.same)
