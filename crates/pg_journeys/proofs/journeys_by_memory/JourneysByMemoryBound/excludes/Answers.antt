use Rattle.pg_journeys.proofs.Common.{test_is}
use Rattle.pg_journeys.proofs.journeys_by_memory.JourneysByMemoryBound.excludes.Goals as goal

pub returns : goal.returns
returns c = record {
  fixed = test_is c.args.diagram.now c.args.position.now c.args.left c.holds.result c.holds.ensures;
  exact = c.holds.ensures;
}
