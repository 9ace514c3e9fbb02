use Rattle.pg_journeys.proofs.Common.{◌+◌, refl}
use Rattle.pg_journeys.proofs.WhoIsReached.{next_reached}
use Rattle.pg_journeys.proofs.needs.unreached_of.Goals as goal

pub loop-e-preserved : goal.loop-e-preserved
loop-e-preserved c = next_reached c.args.side.now c.loop-e.e (c.loop-e.e + 1) refl c.loop-e.invariant (c.is_reached.ensures.0 c.if-not-is_reached.false)
