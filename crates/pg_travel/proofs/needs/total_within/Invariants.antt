use Rattle.pg_travel.proofs.Common.{◌≡◌, ℕ, ◌+◌, ◌-◌, ◌*◌, ◌<◌, ◌≤◌, count_ones, has, count_below, total, charge, cost, CostsOnly, CostsEach}
use Rattle.pg_travel.proofs.needs.total_within.Given as goal

abbrev pub invariant-loop-t : goal.invariant-loop-t
invariant-loop-t l = record { only : CostsOnly l.board l.goal l.color l.way l.squares; each : CostsEach l.board l.goal l.color l.way l.sure; is : l.total + count_below (has l.sure) l.from ≡ charge l.way + total (cost l.board l.goal l.color l.way) l.from + count_ones l.sure; low : (t : ℕ) → t < l.from → cost l.board l.goal l.color l.way t < 64; small : l.total ≤ 65 + 63 * l.from; within : l.from ≤ 64 }

abbrev pub decreases-loop-t : goal.decreases-loop-t
decreases-loop-t l = 64 - l.from
