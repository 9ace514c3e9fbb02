use Rattle.pg_journeys.proofs.Common.{◌≡◌, length, AreCostRows}
use Rattle.pg_journeys.proofs.plans.costs_by_rows.Given as goal

abbrev pub invariant-loop-i : goal.invariant-loop-i
invariant-loop-i l = record { long : length l.rows ≡ 16; is : AreCostRows l.measured.side.now l.measured.is_quiet l.fn.way l.measured.most l.rows l.i }
