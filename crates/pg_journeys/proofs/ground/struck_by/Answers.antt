use Rattle.pg_journeys.proofs.PawnLemmas.{struck_set}
use Rattle.pg_journeys.proofs.ground.struck_by.Goals as goal

pub returns : goal.returns
returns c = struck_set c.args.color c.args.set c.full.result c.ahead_of-ahead.result c.east_of.result c.west_of.result c.bitor.result c.full.ensures c.ahead_of-ahead.ensures c.east_of.ensures c.west_of.ensures c.bitor.ensures.members
