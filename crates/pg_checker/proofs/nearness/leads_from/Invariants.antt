-- No move from the square to one that was tried leads to the diagram.
use Rattle.pg_checker.proofs.Common.{◌≤◌, ◌-◌}
use Rattle.pg_checker.proofs.Leading.{NoneTo}
use Rattle.pg_checker.proofs.nearness.leads_from.Given as goal

abbrev pub invariant-loop-to : goal.invariant-loop-to
invariant-loop-to l = record { within : l.at ≤ 64; none : NoneTo l.diagram l.position l.last l.from l.at }

abbrev pub decreases-loop-to : goal.decreases-loop-to
decreases-loop-to l = 64 - l.at
