use Rattle.pg_travel.proofs.Common.{arith}
use Rattle.pg_travel.proofs.RowTables.{first_none, first_next, first_all}
use Rattle.pg_travel.proofs.rows.fill_table.Goals as goal

pub loop-place-init : goal.loop-place-init
loop-place-init c = first_none c.args.goal.now c.args.rows.now (omega arith)

pub loop-place-preserved : goal.loop-place-preserved
loop-place-preserved c = first_next c.args.goal.now c.loop-place.place c.loop-place.rows c.row_at.result (omega arith) c.loop-place.invariant c.row_at.ensures

pub returns : goal.returns
returns c = first_all c.args.goal.now c.loop-place.place c.loop-place.rows (omega (arith, c.loop-place-test.false, c.loop-place.auto.place-end)) c.loop-place.invariant
