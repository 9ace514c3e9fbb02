use Rattle.pg_pawns.proofs.Common.{◌≡◌, sym, ap, ◌∙◌, arith, ◌+◌, ◌<◌, sum, men, any_pawn, victims, list_of}
use Rattle.pg_pawns.proofs.PriceLemmas.{list_wrong, list_at}
use Rattle.pg_pawns.proofs.prices.excluded.Goals as goal

pub returns-then-u-pawns : goal.returns-then-u-pawns
returns-then-u-pawns c = list_wrong c.args.diagram.now c.args.position.now c.args.color (list_of c.args.u.now c.args.v.now) (λ for above. c.if-u-pawns.true (for.0 ∙ sym (c.pawns.ensures.value ∙ ap (men c.args.color any_pawn) c.board-board.ensures.value)))

pub returns-then-v-pawns : goal.returns-then-v-pawns
returns-then-v-pawns c = list_wrong c.args.diagram.now c.args.position.now c.args.color (list_of c.args.u.now c.args.v.now) (λ for above. c.if-v-pawns.true (for.1 ∙ sym (c.pawns-2.ensures.value ∙ ap (men c.args.color any_pawn) c.board-goal.ensures.value)))

pub returns-then-price_sum-there : goal.returns-then-price_sum-there
returns-then-price_sum-there c = list_wrong c.args.diagram.now c.args.position.now c.args.color (list_of c.args.u.now c.args.v.now) (λ for above.
    (let here : c.from-here.result ≡ victims c.args.color c.args.position.now.board = c.from-here.ensures ∙ c.victims_of.ensures.value ∙ ap (victims c.args.color) c.board-board.ensures.value in
    let there : c.from-there.result ≡ victims c.args.color c.args.diagram.now = c.from-there.ensures ∙ c.victims_of-2.ensures.value ∙ ap (victims c.args.color) c.board-goal.ensures.value in
    omega (arith, above, here, there, c.price_sum.ensures.value, c.price_sum-2.ensures.value, c.if-price_sum-there.true)))

pub returns : goal.returns
returns c =
    let here : c.from-here.result ≡ victims c.args.color c.args.position.now.board = c.from-here.ensures ∙ c.victims_of.ensures.value ∙ ap (victims c.args.color) c.board-board.ensures.value in
    let there : c.from-there.result ≡ victims c.args.color c.args.diagram.now = c.from-there.ensures ∙ c.victims_of-2.ensures.value ∙ ap (victims c.args.color) c.board-goal.ensures.value in
    let above : victims c.args.color c.args.position.now.board + sum c.args.u.now < sum c.args.v.now + victims c.args.color c.args.diagram.now = omega (arith, here, there, c.price_sum.ensures.value, c.price_sum-2.ensures.value, c.if-price_sum-there.false) in
    list_at c.args.diagram.now c.args.position.now c.args.color (list_of c.args.u.now c.args.v.now) c.board-board.result c.board-goal.result c.all_fit.result (c.if-u-pawns.false ∙ c.pawns.ensures.value ∙ ap (men c.args.color any_pawn) c.board-board.ensures.value, c.if-v-pawns.false ∙ c.pawns-2.ensures.value ∙ ap (men c.args.color any_pawn) c.board-goal.ensures.value) above c.board-board.ensures.value c.board-goal.ensures.value c.all_fit.ensures
