use Rattle.pg_journeys.proofs.Common.{has, count_below}
use Rattle.pg_journeys.proofs.TableLemmas.{IsFilling}
use Rattle.pg_journeys.proofs.ground.fill_kind.Given as goal

abbrev pub invariant-loop-square : goal.invariant-loop-square
invariant-loop-square l = IsFilling l.blocks l.free l.kind l.left l.initial.table l.table

abbrev pub decreases-loop-square : goal.decreases-loop-square
decreases-loop-square l = count_below (has l.left) 64
