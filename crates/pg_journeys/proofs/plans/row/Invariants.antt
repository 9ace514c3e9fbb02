use Rattle.pg_journeys.proofs.Common.{◌≡◌, length}
use Rattle.pg_journeys.proofs.CostLemmas.{AreComes}
use Rattle.pg_journeys.proofs.plans.row.Given as goal

abbrev pub invariant-loop-j : goal.invariant-loop-j
invariant-loop-j l = record { long : length l.row ≡ 16; is : AreComes l.side l.most l.man.runner l.row l.j }
