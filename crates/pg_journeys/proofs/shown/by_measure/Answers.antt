use Rattle.pg_journeys.proofs.Common.{merely}
use Rattle.pg_journeys.proofs.shown.by_measure.Goals as goal

pub invariant_of-result : goal.invariant_of-result
invariant_of-result c = record {
  low = c.requires.low;
  size = c.first_costs.ensures.size;
  made = merely (record { aims = c.requires.aims; rows = c.first_costs.ensures.rows });
}
