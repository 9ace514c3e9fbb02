-- No move from a square that was tried leads to the diagram.
use Rattle.pg_checker.proofs.Common.{◌≤◌, ◌-◌}
use Rattle.pg_checker.proofs.Leading.{NoneBelow}
use Rattle.pg_checker.proofs.nearness.has_leading.Given as goal

abbrev pub invariant-loop-from : goal.invariant-loop-from
invariant-loop-from l = record { within : l.at ≤ 64; none : NoneBelow l.diagram l.position l.last l.at }

abbrev pub decreases-loop-from : goal.decreases-loop-from
decreases-loop-from l = 64 - l.at
