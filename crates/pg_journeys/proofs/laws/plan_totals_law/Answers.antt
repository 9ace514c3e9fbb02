use Rattle.pg_journeys.proofs.Common.{plan_to_total, total_to_plan, plans_are_totals}
use Rattle.pg_journeys.proofs.laws.plan_totals_law.Goals as goal

pub returns-clause-same : goal.returns-clause-same
returns-clause-same c = plans_are_totals

pub returns-clause-columns : goal.returns-clause-columns
returns-clause-columns c = plan_to_total

pub returns-clause-plans : goal.returns-clause-plans
returns-clause-plans c = total_to_plan
