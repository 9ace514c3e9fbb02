use Rattle.pg_travel.proofs.Common.{Option, sym, subst, CostsOnly, Wing}
use Rattle.pg_travel.proofs.Within.{costs_free, costs_castled}
use Rattle.pg_travel.proofs.misplaced.to_come.Goals as goal

pub returns-in-None : goal.returns-in-None
returns-in-None c = subst (λ (x : Option Wing). CostsOnly c.args.board.now c.args.goal.now c.args.color x c.bitand.result) (sym c.in-None.is)
    (costs_free c.args.board.now c.args.goal.now c.args.color c.squares_of_color-own.result c.differing-moved.result c.bitand.result c.squares_of_color-own.ensures c.differing-moved.ensures c.bitand.ensures.members)

pub returns-in-Some : goal.returns-in-Some
returns-in-Some c = subst (λ (x : Option Wing). CostsOnly c.args.board.now c.args.goal.now c.args.color x c.bitand-in-Some.result) (sym c.in-Some.is)
    (costs_castled c.args.board.now c.args.goal.now c.args.color c.in-Some.field-0 c.squares_of_color-own.result c.differing-moved.result c.castling_homes.result c.bitor.result c.bitand-in-Some.result
    c.squares_of_color-own.ensures c.differing-moved.ensures c.castling_homes.ensures c.bitor.ensures.members c.bitand-in-Some.ensures.members)
