use Rattle.pg_journeys.proofs.Common.{◌≤◌, All, known, IsRemembered, IsRound}
use Rattle.pg_journeys.proofs.rounds.last_facts.Given as goal

abbrev pub invariant-loop : goal.invariant-loop
invariant-loop l = (l.counter ≤ 3) × IsRound l.fn.course.diagram.now l.fn.course.position.now l.fn.course.left l.counter (known l.facts) × All (IsRemembered l.fn.course.diagram.now) l.shown
