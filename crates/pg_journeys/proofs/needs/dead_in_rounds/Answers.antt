use Rattle.pg_journeys.proofs.Common.{arith, known}
use Rattle.pg_journeys.proofs.FirstDead.{found_here, found_last}
use Rattle.pg_journeys.proofs.LastRounds.{next_round, at_last, same_alive, same_sets}
use Rattle.pg_journeys.proofs.needs.dead_in_rounds.Goals as goal

pub returns-in-None : goal.returns-in-None
returns-in-None c = found_here c.args.course.now.diagram.now c.args.course.now.position.now c.args.course.now.left c.loop.counter c.loop.facts c.first_dead.result c.loop.invariant.0 c.loop.invariant.1 c.in-None.ensures c.first_dead.ensures

pub returns-then-eq : goal.returns-then-eq
returns-then-eq c = same_alive c.args.course.now.diagram.now c.args.course.now.position.now c.args.course.now.left c.loop.counter c.loop.facts c.in-Some.next c.loop.invariant.0 c.loop.invariant.1 c.in-Some.ensures (same_sets c.in-Some.next c.loop.facts c.eq.result c.eq.ensures c.if-eq.true)

pub loop-preserved : goal.loop-preserved
loop-preserved c = (omega (arith, c.loop-test.true), next_round c.args.course.now.diagram.now c.args.course.now.position.now c.args.course.now.left c.loop.counter (known c.loop.facts) (known c.in-Some.next) c.loop.invariant.1 c.in-Some.ensures)

pub returns : goal.returns
returns c = found_last c.args.course.now.diagram.now c.args.course.now.position.now c.args.course.now.left c.loop.facts c.first_dead-2.result (at_last c.args.course.now.diagram.now c.args.course.now.position.now c.args.course.now.left c.loop.counter (known c.loop.facts) c.loop.invariant.0 c.loop-test.false c.loop.invariant.1) c.first_dead-2.ensures
