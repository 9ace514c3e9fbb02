use Rattle.pg_travel.proofs.AfterMove.{below_moved}
use Rattle.pg_travel.proofs.after_move.row_after.Goals as goal

pub returns : goal.returns
returns c = λ stands a men. below_moved c.args.rows.now c.args.board.now a c.args.color c.args.kind c.args.m.now.from c.args.m.now.to c.single-off.result c.of-arrived.result c.lowered_by_all.result c.index.ensures.bound stands c.single-off.ensures c.of-arrived.ensures c.lowered_by_all.ensures men
