use Rattle.pg_journeys.proofs.Common.{known, AheadWithin}
use Rattle.pg_journeys.proofs.RingLemmas.{ring_shows, stands_more}
use Rattle.pg_journeys.proofs.rings.stands_within.Goals as goal

pub returns-in-Some : goal.returns-in-Some
returns-in-Some c =
    let man = c.args.man.now in
    ring_shows (AheadWithin (known c.args.ground.now.facts) c.args.ground.now.color man.is_quiet man.kind man.square) c.args.reach.now.stands c.args.n c.in-Some.ring.now (stands_more (known c.args.ground.now.facts) c.args.ground.now.color man.is_quiet man.kind man.square) c.requires.reach.stands c.in-Some.ensures
