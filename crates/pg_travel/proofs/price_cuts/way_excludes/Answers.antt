use Rattle.pg_travel.proofs.Common.{◌≡◌, sym, ap, ◌∙◌, arith, ◌+◌, ◌<◌, sum, Color, men, any_man, plies_left, charge, list_of}
use Rattle.pg_travel.proofs.PriceLemmas.{way_wrong, way_at, fit_moved}
use Rattle.pg_travel.proofs.SourceLemmas.{priced_low}
use Rattle.pg_travel.proofs.price_cuts.way_excludes.Goals as goal

pub returns-then-u-all_men : goal.returns-then-u-all_men
returns-then-u-all_men c = way_wrong c.args.position.now c.args.rows.now c.args.left c.args.color c.args.way (list_of c.args.u.now c.args.v.now) (λ for above. c.if-u-all_men.true (for.0 ∙ sym (c.all_men.ensures.value ∙ ap (men c.args.color any_man) c.board-board.ensures.value)))

pub returns-then-v-men : goal.returns-then-v-men
returns-then-v-men c = way_wrong c.args.position.now c.args.rows.now c.args.left c.args.color c.args.way (list_of c.args.u.now c.args.v.now) (λ for above. c.if-v-men.true (for.1 ∙ sym c.men.ensures))

pub returns-then-price_sum-charge : goal.returns-then-price_sum-charge
returns-then-price_sum-charge c = way_wrong c.args.position.now c.args.rows.now c.args.left c.args.color c.args.way (list_of c.args.u.now c.args.v.now) (λ for above.
    (let p : c.from-plies.result ≡ plies_left c.args.position.now.side c.args.color c.args.left = c.from-plies.ensures ∙ c.plies_left.ensures ∙ ap (λ (s : Color). plies_left s c.args.color c.args.left) c.side.ensures.value in
    omega (arith, above, p, c.price_sum.ensures.value, c.price_sum-2.ensures.value, c.charge.ensures.value, c.if-price_sum-charge.true)))

pub returns : goal.returns
returns c =
    let p : c.from-plies.result ≡ plies_left c.args.position.now.side c.args.color c.args.left = c.from-plies.ensures ∙ c.plies_left.ensures ∙ ap (λ (s : Color). plies_left s c.args.color c.args.left) c.side.ensures.value in
    let above : plies_left c.args.position.now.side c.args.color c.args.left + sum c.args.u.now < sum c.args.v.now + charge c.args.way = omega (arith, p, c.price_sum.ensures.value, c.price_sum-2.ensures.value, c.charge.ensures.value, c.if-price_sum-charge.false) in
    way_at c.args.position.now c.args.rows.now c.args.left c.args.color c.args.way (list_of c.args.u.now c.args.v.now) c.fit_by.result (c.if-u-all_men.false ∙ c.all_men.ensures.value ∙ ap (men c.args.color any_man) c.board-board.ensures.value, c.if-v-men.false ∙ c.men.ensures) above
    (fit_moved c.board-board.result c.args.position.now.board c.args.rows.now c.args.color c.args.way c.args.u.now c.args.v.now c.fit_by.result c.board-board.ensures.value c.fit_by.ensures)

pub price_sum-requires : goal.price_sum-requires
price_sum-requires c = priced_low c.args.v.now c.args.color c.args.rows.now (c.if-v-men.false ∙ c.men.ensures)
