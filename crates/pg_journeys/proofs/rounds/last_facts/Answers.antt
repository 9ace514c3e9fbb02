use Rattle.pg_journeys.proofs.Common.{arith, known}
use Rattle.pg_journeys.proofs.LastRounds.{next_round, round_dead, at_last, last_alive, is_not, same_alive, same_facts, same_sets}
use Rattle.pg_journeys.proofs.rounds.last_facts.Goals as goal

pub returns-then-eq-clause-alive : goal.returns-then-eq-clause-alive
returns-then-eq-clause-alive c = same_alive c.args.course.now.diagram.now c.args.course.now.position.now c.args.course.now.left c.loop.counter c.loop.facts c.in-Some.next c.loop.invariant.0 c.loop.invariant.1 c.in-Some.ensures.next (same_sets c.in-Some.next c.loop.facts c.eq.result c.eq.ensures c.if-eq.true)

pub returns-then-eq-clause-facts : goal.returns-then-eq-clause-facts
returns-then-eq-clause-facts c = same_facts c.args.course.now.diagram.now c.args.course.now.position.now c.args.course.now.left c.loop.counter c.loop.facts c.in-Some.next c.loop.invariant.0 c.loop.invariant.1 c.in-Some.ensures.next (same_sets c.in-Some.next c.loop.facts c.eq.result c.eq.ensures c.if-eq.true)

pub loop-preserved : goal.loop-preserved
loop-preserved c = (omega (arith, c.loop-test.true), next_round c.args.course.now.diagram.now c.args.course.now.position.now c.args.course.now.left c.loop.counter (known c.loop.facts) (known c.in-Some.next) c.loop.invariant.1 c.in-Some.ensures.next, c.next_by.ensures.remembered)

pub returns-then-any_dead-clause-dead : goal.returns-then-any_dead-clause-dead
returns-then-any_dead-clause-dead c = round_dead c.args.course.now.diagram.now c.args.course.now.position.now c.args.course.now.left 3 (known c.loop.facts) (omega arith) (at_last c.args.course.now.diagram.now c.args.course.now.position.now c.args.course.now.left c.loop.counter (known c.loop.facts) c.loop.invariant.0 c.loop-test.false c.loop.invariant.1) (c.any_dead.ensures.0 c.if-any_dead.true)

pub returns-clause-alive : goal.returns-clause-alive
returns-clause-alive c = last_alive c.args.course.now.diagram.now c.args.course.now.position.now c.args.course.now.left (known c.loop.facts) (at_last c.args.course.now.diagram.now c.args.course.now.position.now c.args.course.now.left c.loop.counter (known c.loop.facts) c.loop.invariant.0 c.loop-test.false c.loop.invariant.1) (is_not c.any_dead.result c.any_dead.ensures c.if-any_dead.false)

pub returns-clause-facts : goal.returns-clause-facts
returns-clause-facts c = (at_last c.args.course.now.diagram.now c.args.course.now.position.now c.args.course.now.left c.loop.counter (known c.loop.facts) c.loop.invariant.0 c.loop-test.false c.loop.invariant.1).facts
