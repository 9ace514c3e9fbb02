use Rattle.pg_travel.proofs.RowTables.{row_at_place}
use Rattle.pg_travel.proofs.rows.Rows.of.Goals as goal

pub returns : goal.returns
returns c = row_at_place c.self.inside.goal c.args.self.now c.self.inside.table c.args.color c.args.kind c.args.from c.row_place.result c.self.invariant.0 c.self.view_is c.row_place.ensures.bound.0 c.row_place.ensures.bound.1 c.row_place.ensures.value
