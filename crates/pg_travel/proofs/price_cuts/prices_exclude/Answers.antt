use Rattle.pg_travel.proofs.Common.{travel_prices_barren}
use Rattle.pg_travel.proofs.PriceLemmas.{each_told}
use Rattle.pg_travel.proofs.price_cuts.prices_exclude.Goals as goal

pub returns-clause-exact : goal.returns-clause-exact
returns-clause-exact c = each_told c.new-rows.result c.args.diagram.now c.args.position.now c.args.left c.args.color c.args.prices.now c.excluded.result c.new-rows.ensures c.excluded.ensures

pub returns-clause-barren : goal.returns-clause-barren
returns-clause-barren c = λ yes_it_is. travel_prices_barren c.args.diagram.now c.args.position.now c.args.left c.args.color c.args.prices.now c.side.ensures.position
    ((each_told c.new-rows.result c.args.diagram.now c.args.position.now c.args.left c.args.color c.args.prices.now c.excluded.result c.new-rows.ensures c.excluded.ensures).0 yes_it_is)
