use Rattle.pg_journeys.proofs.Common.{known, TakesAfter}
use Rattle.pg_journeys.proofs.RingLemmas.{ring_shows, after_more}
use Rattle.pg_journeys.proofs.rings.taken_after.Goals as goal

pub returns-in-Some : goal.returns-in-Some
returns-in-Some c =
    let man = c.args.man.now in
    ring_shows (TakesAfter (known c.args.ground.now.facts) c.args.ground.now.color man.is_quiet man.kind man.square) c.args.reach.now.taken c.args.n c.in-Some.ring.now (after_more (known c.args.ground.now.facts) c.args.ground.now.color man.is_quiet man.kind man.square) c.requires.reach.taken c.in-Some.ensures
