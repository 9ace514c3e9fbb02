use Rattle.pg_travel.proofs.Common.{Pawn, Knight, Bishop, Rook, Queen, King}
use Rattle.pg_travel.proofs.LeastRows.{of_kind, off_lowered}
use Rattle.pg_travel.proofs.least_rows.lowered_by_all.Goals as goal

pub returns : goal.returns
returns c = off_lowered c.args.rows.now c.args.board.now c.args.color c.args.off c.args.start c.lowered_by-pawns.result c.lowered_by-knights.result c.lowered_by-bishops.result c.lowered_by-rooks.result c.lowered_by-queens.result c.lowered_by.result
    (of_kind c.args.rows.now c.args.board.now c.args.color c.args.off Pawn c.new.result c.args.start c.lowered_by-pawns.result c.new.ensures c.lowered_by-pawns.ensures)
    (of_kind c.args.rows.now c.args.board.now c.args.color c.args.off Knight c.new-2.result c.lowered_by-pawns.result c.lowered_by-knights.result c.new-2.ensures c.lowered_by-knights.ensures)
    (of_kind c.args.rows.now c.args.board.now c.args.color c.args.off Bishop c.new-3.result c.lowered_by-knights.result c.lowered_by-bishops.result c.new-3.ensures c.lowered_by-bishops.ensures)
    (of_kind c.args.rows.now c.args.board.now c.args.color c.args.off Rook c.new-4.result c.lowered_by-bishops.result c.lowered_by-rooks.result c.new-4.ensures c.lowered_by-rooks.ensures)
    (of_kind c.args.rows.now c.args.board.now c.args.color c.args.off Queen c.new-5.result c.lowered_by-rooks.result c.lowered_by-queens.result c.new-5.ensures c.lowered_by-queens.ensures)
    (of_kind c.args.rows.now c.args.board.now c.args.color c.args.off King c.new-6.result c.lowered_by-queens.result c.lowered_by.result c.new-6.ensures c.lowered_by.ensures)
