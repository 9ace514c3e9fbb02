use Rattle.pg_checker.proofs.Leading.{last_leads}
use Rattle.pg_checker.proofs.nearness.has_led.Goals as goal

pub returns-in-Some : goal.returns-in-Some
returns-in-Some c = last_leads c.args.diagram.now c.args.position.now c.args.last.now c.in-Some.m c.plays_to.result c.in-Some.is c.plays_to.ensures
