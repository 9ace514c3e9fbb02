use Rattle.pg_journeys.proofs.Common.{◌≤◌, known, IsRound}
use Rattle.pg_journeys.proofs.needs.dead_in_rounds.Given as goal

abbrev pub invariant-loop : goal.invariant-loop
invariant-loop l = (l.counter ≤ 3) × IsRound l.fn.course.diagram.now l.fn.course.position.now l.fn.course.left l.counter (known l.facts)
