use Rattle.pg_travel.proofs.Common.{◌≡◌, ◌-◌, ◌≤◌, min, get, least_of, reach_from}
use Rattle.pg_travel.proofs.needs.nearer.Given as goal

abbrev pub invariant-loop-o : goal.invariant-loop-o
invariant-loop-o l = record { is : l.least ≡ min l.best (least_of (λ o. reach_from l.man l.way l.kind l.t o (get l.board o)) l.from); within : l.from ≤ 64 }

abbrev pub decreases-loop-o : goal.decreases-loop-o
decreases-loop-o l = 64 - l.from
