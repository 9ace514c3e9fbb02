use Rattle.pg_journeys.proofs.CostLemmas.{costs_known}
use Rattle.pg_journeys.proofs.MeasuredLemmas.{measured_rows}
use Rattle.pg_journeys.proofs.plans.costs_in.Goals as goal

pub returns-in-None-clause-costs : goal.returns-in-None-clause-costs
returns-in-None-clause-costs c = λ d side. costs_known d c.args.measured.now.side.now c.args.way c.args.measured.now.is_quiet c.args.measured.now.most c.args.measured.now.costs side c.args.measured.now.low c.args.measured.now.size (measured_rows c.args.measured.now) c.in-None.is
