use Rattle.pg_travel.proofs.Common.{sym, subst, arith, ◌∙◌, Placement, AreMoved, AreToCome}
use Rattle.pg_travel.proofs.AfterMove.{all_far, each_far}
use Rattle.pg_travel.proofs.after_move.too_many_to_come.Goals as goal

pub returns-then-count-plies-gt1 : goal.returns-then-count-plies-gt1
returns-then-count-plies-gt1 c = λ t q moved.
    let men : AreMoved c.board.result q.board c.args.color c.args.m.now.from c.args.m.now.to = subst (λ (b : Placement). AreMoved b q.board c.args.color c.args.m.now.from c.args.m.now.to) (sym c.board.ensures.value) moved.men in
    all_far q c.args.goal.now c.args.color c.args.plies c.to_come_after-come.result (sym c.len.ensures.value ∙ c.len.ensures.squares) (c.to_come_after-come.ensures q.board men) (omega (arith, c.if-count-plies.false, c.if-count-plies-gt1.true, c.from-count.ensures, c.len.ensures.value))

pub returns : goal.returns
returns c = λ t q moved.
    let men : AreMoved c.board.result q.board c.args.color c.args.m.now.from c.args.m.now.to = subst (λ (b : Placement). AreMoved b q.board c.args.color c.args.m.now.from c.args.m.now.to) (sym c.board.ensures.value) moved.men in
    let come : AreToCome q.board c.args.goal.now c.args.color c.to_come_after-come.result = c.to_come_after-come.ensures q.board men in
    each_far q c.args.goal.now c.args.color c.args.plies c.to_come_after-come.result (sym c.len.ensures.value ∙ c.len.ensures.squares) come (omega (arith, c.if-count-plies.false, c.from-count.ensures, c.len.ensures.value))
    (c.too_many_castled.ensures c.if-not-too_many_castled.false q c.args.goal.now moved.rights come) (c.too_many_castled-2.ensures t q c.args.goal.now moved.rights come)
