use Rattle.pg_travel.proofs.Common.{refl, arith}
use Rattle.pg_travel.proofs.RowTables.{at_white, at_black}
use Rattle.pg_travel.proofs.rows.row_at.Goals as goal

pub returns-then-place-lt384 : goal.returns-then-place-lt384
returns-then-place-lt384 c = at_white c.args.goal.now c.args.place c.kind_with.result c.at.result c.row.result c.if-place-lt384.true c.kind_with.ensures c.at.ensures (rw c.new-man.ensures at c.row.ensures)

pub returns-else-place-lt384 : goal.returns-else-place-lt384
returns-else-place-lt384 c = at_black c.args.goal.now c.args.place _ c.kind_with-else-place-lt384.result c.at-else-place-lt384.result c.row-else-place-lt384.result (omega (arith, c.if-place-lt384.false)) refl c.kind_with-else-place-lt384.ensures c.at-else-place-lt384.ensures (rw c.new-man-else-place-lt384.ensures at c.row-else-place-lt384.ensures)
