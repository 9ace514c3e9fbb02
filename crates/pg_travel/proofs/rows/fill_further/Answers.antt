use Rattle.pg_travel.proofs.Common.{arith}
use Rattle.pg_travel.proofs.FurtherRows.{first_none, first_next, first_all, no_further}
use Rattle.pg_travel.proofs.rows.fill_further.Goals as goal

pub loop-place-init : goal.loop-place-init
loop-place-init c = first_none c.args.goal.now c.args.rows.now (omega arith)

pub loop-place-preserved : goal.loop-place-preserved
loop-place-preserved c = first_next c.args.goal.now c.loop-place.place c.loop-place.rows c.further_at.result (omega arith) c.loop-place.invariant c.further_at.ensures

pub returns : goal.returns
returns c = first_all c.args.goal.now c.loop-place.place c.loop-place.rows (omega (arith, c.loop-place-test.false, c.loop-place.auto.place-end)) c.loop-place.invariant

pub returns-then-black-eq1 : goal.returns-then-black-eq1
returns-then-black-eq1 c = no_further c.args.goal.now c.pages_of-white.result c.pages_of-black.result c.args.rows.now (omega arith) c.pages_of-white.ensures c.pages_of-black.ensures c.if-white-eq1.true c.if-black-eq1.true
