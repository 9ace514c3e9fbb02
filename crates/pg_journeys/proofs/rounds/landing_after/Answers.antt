use Rattle.pg_journeys.proofs.NextRounds.{land_set}
use Rattle.pg_journeys.proofs.rounds.landing_after.Goals as goal

pub returns : goal.returns
returns c = land_set c.args.before c.args.still c.args.own.now c.args.theirs.now c.bitand.result c.bitand-2.result c.bitand-3.result c.bitand-4.result c.sub.result c.bitand.ensures.members c.bitand-2.ensures.members c.bitand-3.ensures.members c.bitand-4.ensures.members c.sub.ensures.members
