use Rattle.pg_journeys.proofs.Common.{Some, KingSide}
use Rattle.pg_journeys.proofs.WhoIsReached.{is_so, third_reached}
use Rattle.pg_journeys.proofs.needs.is_reached.Goals as goal

pub returns-then-is_reached_in-2 : goal.returns-then-is_reached_in-2
returns-then-is_reached_in-2 c = is_so (Some KingSide, c.is_reached_in-2.ensures.0 c.if-is_reached_in-2.true)

pub returns : goal.returns
returns c = third_reached c.args.side.now c.args.e c.is_reached_in.result c.is_reached_in-2.result c.is_reached_in-3.result c.is_reached_in.ensures c.if-is_reached_in.false c.is_reached_in-2.ensures c.if-is_reached_in-2.false c.is_reached_in-3.ensures
