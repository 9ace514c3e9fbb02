use Rattle.pg_journeys.proofs.Common.{fewer}
use Rattle.pg_journeys.proofs.TableLemmas.{blocking_first, blocking_next}
use Rattle.pg_journeys.proofs.ground.blocked.Goals as goal

pub loop-square-init : goal.loop-square-init
loop-square-init c = rw c.empty-board.ensures (blocking_first c.args.set)

pub loop-square-smaller : goal.loop-square-smaller
loop-square-smaller c = fewer c.loop-square.left c.pop_first.new.self c.in-Some.square c.in-Some.ensures.taken c.in-Some.ensures.rest

pub loop-square-preserved : goal.loop-square-preserved
loop-square-preserved c = rw c.put.ensures (blocking_next c.args.set c.loop-square.left c.pop_first.new.self c.in-Some.square c.loop-square.board c.new.result c.loop-square.invariant c.in-Some.ensures.taken c.in-Some.ensures.rest)
