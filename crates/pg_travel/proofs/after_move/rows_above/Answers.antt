use Rattle.pg_travel.proofs.Common.{sym, subst, arith, ◌∙◌, Placement, Stands, AreMoved, IsBelow}
use Rattle.pg_travel.proofs.AfterMove.{kind_there}
use Rattle.pg_travel.proofs.CastledRows.{free_over}
use Rattle.pg_travel.proofs.after_move.rows_above.Goals as goal

pub returns : goal.returns
returns c = λ t q moved.
    let stands : Stands c.board-board.result c.args.color c.in-Some.man.kind c.args.m.now.from = kind_there c.args.position.now.board c.board-board.result c.args.color moved.stood.0 c.args.m.now.from c.in-Some.man c.board-board.ensures.value (sym c.get.ensures ∙ c.in-Some.is) moved.stood.1 in
    let men : AreMoved c.board-board.result q.board c.args.color c.args.m.now.from c.args.m.now.to = subst (λ (b : Placement). AreMoved b q.board c.args.color c.args.m.now.from c.args.m.now.to) (sym c.board-board.ensures.value) moved.men in
    let below : IsBelow c.args.rows.now q.board c.args.color c.row_after-row.result = c.row_after-row.ensures stands q.board men in
    (free_over q c.args.rows.now c.args.color c.row_after-row.result c.args.plies c.cost_by.result below c.requires c.cost_by.ensures (omega (arith, c.if-cost_by-plies.false)), c.castled_above.ensures c.if-not-castled_above.false q moved.position moved.rights below, c.castled_above-2.ensures t q moved.position moved.rights below)
