use Rattle.pg_travel.proofs.Common.{refl, arith}
use Rattle.pg_travel.proofs.LeastRows.{unreached_next, unreached_all}
use Rattle.pg_travel.proofs.rows.unreached.Goals as goal

pub loop-i-init : goal.loop-i-init
loop-i-init c = (refl, λ j l. absurd (omega arith))

pub loop-i-preserved : goal.loop-i-preserved
loop-i-preserved c = unreached_next c.args.count c.loop-i.i c.no_distance.result c.loop-i.row (omega arith) c.no_distance.ensures.among c.no_distance.ensures.past c.loop-i.invariant

pub returns : goal.returns
returns c = unreached_all c.args.count c.loop-i.i c.loop-i.row (omega (arith, c.loop-i-test.false, c.loop-i.auto.i-end)) c.loop-i.invariant
