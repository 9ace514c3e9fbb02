use Rattle.pg_journeys.proofs.Common.{test_is}
use Rattle.pg_journeys.proofs.journeys.JourneysBound.excludes.Goals as goal

pub returns : goal.returns
returns c = record {
  fixed = test_is c.args.diagram.now c.args.position.now c.args.left c.journeys_hold.result c.journeys_hold.ensures;
  exact = c.journeys_hold.ensures;
}
