use Rattle.pg_travel.proofs.MakingRows.{pawn_row}
use Rattle.pg_travel.proofs.rows.row_of_pawn.Goals as goal

pub returns : goal.returns
returns c = pawn_row c.args.goal.now c.args.color c.args.from c.args.first c.args.none c.with_kind-pawns.result c.with_kind-knights.result c.with_kind-bishops.result c.with_kind-rooks.result c.with_kind.result c.requires (rw c.new-pawn.ensures at c.with_kind-pawns.ensures) (rw c.new-pawn.ensures at c.with_kind-knights.ensures) (rw c.new-pawn.ensures at c.with_kind-bishops.ensures) (rw c.new-pawn.ensures at c.with_kind-rooks.ensures) (rw c.new-pawn.ensures at c.with_kind.ensures)
