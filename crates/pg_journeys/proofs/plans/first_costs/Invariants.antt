use Rattle.pg_journeys.proofs.Common.{◌≡◌, None, length, AreCostRows}
use Rattle.pg_journeys.proofs.plans.first_costs.Given as goal

abbrev pub invariant-loop-i : goal.invariant-loop-i
invariant-loop-i l = record { long : length l.rows ≡ 16; is : AreCostRows l.side l.is_quiet None l.most l.rows l.i }
