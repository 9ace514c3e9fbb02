use Rattle.pg_checker.proofs.Common.{spot_of}
use Rattle.pg_checker.proofs.SpotLemmas.{leads_there}
use Rattle.pg_checker.proofs.node.first_says.Goals as goal

pub returns-in-Some : goal.returns-in-Some
returns-in-Some g c = c.first_excludes_after.ensures.first (spot_of c.args.spot.now) (leads_there c.args.spot.now.from c.args.spot.now.m c.in-Some.m c.in-Some.is c.requires)
