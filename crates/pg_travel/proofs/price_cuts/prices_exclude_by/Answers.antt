use Rattle.pg_travel.proofs.Common.{travel_prices_barren}
use Rattle.pg_travel.proofs.PriceLemmas.{each_told}
use Rattle.pg_travel.proofs.price_cuts.prices_exclude_by.Goals as goal

pub returns-then-is_of-clause-exact : goal.returns-then-is_of-clause-exact
returns-then-is_of-clause-exact c = each_told c.args.rows.now c.args.diagram.now c.args.position.now c.args.left c.args.color c.args.prices.now c.excluded.result (c.is_of.ensures.0 c.if-is_of.true) c.excluded.ensures

pub returns-then-is_of-clause-barren : goal.returns-then-is_of-clause-barren
returns-then-is_of-clause-barren c = λ yes_it_is. travel_prices_barren c.args.diagram.now c.args.position.now c.args.left c.args.color c.args.prices.now c.side.ensures.position
    ((each_told c.args.rows.now c.args.diagram.now c.args.position.now c.args.left c.args.color c.args.prices.now c.excluded.result (c.is_of.ensures.0 c.if-is_of.true) c.excluded.ensures).0 yes_it_is)
