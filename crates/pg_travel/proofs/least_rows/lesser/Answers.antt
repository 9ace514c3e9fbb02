use Rattle.pg_travel.proofs.Common.{arith, AreLesser}
use Rattle.pg_travel.proofs.least_rows.lesser.Goals as goal

pub returns : goal.returns
unfolding AreLesser
returns c = (c.loop-i.invariant.long, λ i l. c.loop-i.invariant.seen i (omega (arith, l, c.loop-i-test.false, c.loop-i.auto.i-end)))
