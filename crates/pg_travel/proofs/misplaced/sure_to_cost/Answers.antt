use Rattle.pg_travel.proofs.Common.{Option, sym, subst, CostsEach, Wing}
use Rattle.pg_travel.proofs.Within.{sure_free, sure_castled}
use Rattle.pg_travel.proofs.misplaced.sure_to_cost.Goals as goal

pub returns-in-None : goal.returns-in-None
returns-in-None c = subst (λ (x : Option Wing). CostsEach c.args.board.now c.args.goal.now c.args.color x c.bitand.result) (sym c.in-None.is)
    (sure_free c.args.board.now c.args.goal.now c.args.color c.squares_of_color-own.result c.differing-moved.result c.bitand.result c.squares_of_color-own.ensures c.differing-moved.ensures c.bitand.ensures.members)

pub returns-in-Some : goal.returns-in-Some
returns-in-Some c = subst (λ (x : Option Wing). CostsEach c.args.board.now c.args.goal.now c.args.color x c.sub.result) (sym c.in-Some.is)
    (sure_castled c.args.board.now c.args.goal.now c.args.color c.in-Some.wing c.squares_of_color-own.result c.differing-moved.result c.castled_squares.result c.bitand-in-Some.result c.sub.result
    c.squares_of_color-own.ensures c.differing-moved.ensures c.castled_squares.ensures c.bitand-in-Some.ensures.members c.sub.ensures.members)
