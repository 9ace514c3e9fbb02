use Rattle.pg_checker.proofs.Common.{travel_prices_test_is}
use Rattle.pg_checker.proofs.node.travel_excludes.Goals as goal

pub returns-in-None : goal.returns-in-None
returns-in-None c = travel_prices_test_is c.args.diagram.now c.args.position.now c.args.left c.args.color c.args.prices.now c.prices_exclude.result c.prices_exclude.ensures.exact

pub returns-in-Some : goal.returns-in-Some
returns-in-Some c = travel_prices_test_is c.args.diagram.now c.args.position.now c.args.left c.args.color c.args.prices.now c.prices_exclude_by.result c.prices_exclude_by.ensures.exact
