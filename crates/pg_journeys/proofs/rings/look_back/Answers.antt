use Rattle.pg_journeys.proofs.Common.{known, BackStep, FromSome}
use Rattle.pg_journeys.proofs.SearchLemmas.{due_turn, fewer_unseen}
use Rattle.pg_journeys.proofs.BackSearches.{back_turn, back_last}
use Rattle.pg_journeys.proofs.rings.look_back.Goals as goal

pub loop-men-init : goal.loop-men-init
loop-men-init c = record { ready = c.requires.ready; amid = λ goals n h. h }

pub loop-men-smaller : goal.loop-men-smaller
loop-men-smaller c = fewer_unseen (FromSome (BackStep (known c.args.ground.now.facts) c.args.ground.now.color c.args.is_quiet c.in-Some.men.kind) c.in-Some.men.set) c.in-Some.men.kind c.in-Some.men.set c.loop-men.front c.take_due.new.self c.meet_before.new.front c.in-Some.ensures.met c.loop-men.invariant.ready c.in-Some.ensures.taken c.meet_before.ensures

pub loop-men-preserved : goal.loop-men-preserved
loop-men-preserved c =
    let f = known c.args.ground.now.facts in
    let color = c.args.ground.now.color in
    record {
      ready = due_turn (FromSome (BackStep f color c.args.is_quiet c.in-Some.men.kind) c.in-Some.men.set) c.in-Some.men.kind c.in-Some.men.set c.loop-men.front c.take_due.new.self c.meet_before.new.front c.in-Some.ensures.met c.loop-men.invariant.ready c.in-Some.ensures.taken c.meet_before.ensures;
      amid = λ goals n h. back_turn f color c.args.is_quiet goals n c.in-Some.men.kind c.in-Some.men.set c.loop-men.front c.take_due.new.self c.meet_before.new.front c.in-Some.ensures.met c.in-Some.ensures.next c.in-Some.ensures.taken c.meet_before.ensures (c.loop-men.invariant.amid goals n h);
    }

pub returns : goal.returns
returns c = λ goals n h. back_last (known c.args.ground.now.facts) c.args.ground.now.color c.args.is_quiet goals n c.loop-men.front c.take_due.new.self c.in_default.ensures.none c.in_default.ensures.taken (c.loop-men.invariant.amid goals n h)
