use Rattle.pg_travel.proofs.Common.{◌≡◌, Bool, false, ap, subst, sym, ◌∙◌, Color, KingSide, plies_left, CastledIs}
use Rattle.pg_travel.proofs.Within.{free_paid, castled_paid, told}
use Rattle.pg_travel.proofs.LeastRows.{few_plies, free_within, free_above}
use Rattle.pg_travel.proofs.least_rows.excludes_by.Goals as goal

pub returns-then-far_off : goal.returns-then-far_off
returns-then-far_off c = told c.args.position.now c.args.rows.now c.args.color c.args.left c.from-plies.result false (c.from-plies.ensures ∙ c.plies_left.ensures ∙ ap (λ (s : Color). plies_left s c.args.color c.args.left) c.side.ensures.value) (c.far_off.ensures.free c.if-far_off.true) (c.far_off.ensures.short c.if-far_off.true) (c.far_off.ensures.long c.if-far_off.true)

pub returns-then-cost_by-plies : goal.returns-then-cost_by-plies
returns-then-cost_by-plies c =
    let left : c.from-plies.result ≡ plies_left c.args.position.now.side c.args.color c.args.left = c.from-plies.ensures ∙ c.plies_left.ensures ∙ ap (λ (s : Color). plies_left s c.args.color c.args.left) c.side.ensures.value in
    ((λ t. cc), (λ t. absurd (free_paid c.args.position.now c.args.rows.now c.args.color c.args.left c.from-plies.result left (free_within c.args.position.now c.board-board.result c.args.rows.now c.args.color c.free_row-free.result c.from-plies.result c.cost_by.result (sym c.board-board.ensures.value) c.free_row-free.ensures c.requires (few_plies c.args.position.now.side c.args.color c.args.left c.from-plies.result left c.ranges.left.fits) c.cost_by.ensures c.if-cost_by-plies.true) t)))

pub returns-then-short : goal.returns-then-short
returns-then-short c = ((λ t. cc), (λ t. absurd (castled_paid c.args.position.now c.args.rows.now c.args.color KingSide c.args.left c.from-plies.result (c.from-plies.ensures ∙ c.plies_left.ensures ∙ ap (λ (s : Color). plies_left s c.args.color c.args.left) c.side.ensures.value) (subst (λ (b : Bool). CastledIs c.args.position.now c.args.rows.now c.args.color KingSide c.from-plies.result b) c.if-short.true c.pays_castled-short.ensures) t)))

pub returns : goal.returns
returns c =
    let left : c.from-plies.result ≡ plies_left c.args.position.now.side c.args.color c.args.left = c.from-plies.ensures ∙ c.plies_left.ensures ∙ ap (λ (s : Color). plies_left s c.args.color c.args.left) c.side.ensures.value in
    told c.args.position.now c.args.rows.now c.args.color c.args.left c.from-plies.result c.pays_castled-long.result left (free_above c.args.position.now c.board-board.result c.args.rows.now c.args.color c.free_row-free.result c.from-plies.result c.cost_by.result (sym c.board-board.ensures.value) c.free_row-free.ensures c.requires (few_plies c.args.position.now.side c.args.color c.args.left c.from-plies.result left c.ranges.left.fits) c.cost_by.ensures c.if-cost_by-plies.false) (subst (λ (b : Bool). CastledIs c.args.position.now c.args.rows.now c.args.color KingSide c.from-plies.result b) c.if-short.false c.pays_castled-short.ensures) c.pays_castled-long.ensures
