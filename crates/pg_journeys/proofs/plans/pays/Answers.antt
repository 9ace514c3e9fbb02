use Rattle.pg_journeys.proofs.CostLemmas.{none_pays, some_pays}
use Rattle.pg_journeys.proofs.plans.pays.Goals as goal

pub returns-in-None : goal.returns-in-None
returns-in-None c = none_pays c.args.costs.now c.least_total.result c.args.most c.in-None.is c.least_total.ensures

pub returns-in-Some : goal.returns-in-Some
returns-in-Some c = some_pays c.args.costs.now c.least_total.result c.in-Some.total c.from.result c.args.most c.from.ensures c.in-Some.is c.least_total.ensures
