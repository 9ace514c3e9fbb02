use Rattle.pg_journeys.proofs.Common.{known, AheadStep, FromSome}
use Rattle.pg_journeys.proofs.SearchLemmas.{due_turn, fewer_unseen}
use Rattle.pg_journeys.proofs.AheadSearches.{ahead_turn, ahead_last, taken_turn, taken_last}
use Rattle.pg_journeys.proofs.rings.look_ahead.Goals as goal

pub loop-men-init : goal.loop-men-init
loop-men-init c = record { ready = c.requires.ready; amid = λ k s n first noted. (first, noted) }

pub loop-men-smaller : goal.loop-men-smaller
loop-men-smaller c = fewer_unseen (FromSome (AheadStep (known c.args.ground.now.facts) c.args.ground.now.color c.args.is_quiet c.in-Some.men.kind) c.in-Some.men.set) c.in-Some.men.kind c.in-Some.men.set c.loop-men.front c.take_due.new.self c.step_ahead.new.front c.in-Some.ensures.met c.loop-men.invariant.ready c.in-Some.ensures.taken c.step_ahead.ensures.met

pub loop-men-preserved : goal.loop-men-preserved
loop-men-preserved c =
    let f = known c.args.ground.now.facts in
    let color = c.args.ground.now.color in
    let quiet = c.args.is_quiet in
    record {
      ready = due_turn (FromSome (AheadStep f color quiet c.in-Some.men.kind) c.in-Some.men.set) c.in-Some.men.kind c.in-Some.men.set c.loop-men.front c.take_due.new.self c.step_ahead.new.front c.in-Some.ensures.met c.loop-men.invariant.ready c.in-Some.ensures.taken c.step_ahead.ensures.met;
      amid = λ k s n first noted.
          let before = c.loop-men.invariant.amid k s n first noted in (
            ahead_turn f color quiet k s n c.in-Some.men.kind c.in-Some.men.set c.loop-men.front c.take_due.new.self c.step_ahead.new.front c.in-Some.ensures.met c.in-Some.ensures.next c.in-Some.ensures.taken c.step_ahead.ensures.met before.0,
            taken_turn f color quiet k s n c.in-Some.men.kind c.in-Some.men.set c.loop-men.front c.take_due.new.self c.step_ahead.new.front c.loop-men.taken c.step_ahead.new.taken c.in-Some.ensures.met c.in-Some.ensures.taken c.step_ahead.ensures.met c.step_ahead.ensures.taken before.0 before.1,
          );
    }

pub returns : goal.returns
returns c = λ k s n low first noted.
    let before = c.loop-men.invariant.amid k s n first noted in (
      ahead_last (known c.args.ground.now.facts) c.args.ground.now.color c.args.is_quiet k s low n c.loop-men.front c.take_due.new.self c.in_default.ensures.none c.in_default.ensures.taken before.0,
      taken_last (known c.args.ground.now.facts) c.args.ground.now.color c.args.is_quiet k s n c.loop-men.front c.take_due.new.self c.loop-men.taken c.in_default.ensures.none c.in_default.ensures.taken before.1,
    )
