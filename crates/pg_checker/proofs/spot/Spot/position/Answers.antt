use Rattle.pg_checker.proofs.SpotLemmas.{is_there}
use Rattle.pg_checker.proofs.spot.Spot.position.Goals as goal

pub returns-in-Some : goal.returns-in-Some
returns-in-Some c = is_there c.args.self.now.from c.args.self.now.m c.in-Some.m c.after.result c.in-Some.is c.after.ensures.from c.after.ensures.legal
