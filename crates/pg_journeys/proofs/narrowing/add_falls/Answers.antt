use Rattle.pg_journeys.proofs.SideLemmas.{side_ground}
use Rattle.pg_journeys.proofs.narrowing.add_falls.Goals as goal

pub stands_within-stands-requires-clause-sound : goal.stands_within-stands-requires-clause-sound
stands_within-stands-requires-clause-sound c = side_ground c.args.side.now
