use Rattle.pg_tolls.proofs.Common.{◌≡◌, ◌<◌, ◌≤◌, ℕ, [], get_or, sym, subst, arith, ◌∙◌, rank, last_rank, fewer, cell, AreBelow}
use Rattle.pg_tolls.proofs.FillingLemmas.{lowering_next, lower_put}
use Rattle.pg_tolls.proofs.filling.promote.Goals as goal

pub loop-square-smaller : goal.loop-square-smaller
loop-square-smaller c = fewer c.loop-square.left c.pop_first.new.self c.in-Some.square c.in-Some.ensures.taken c.in-Some.ensures.rest

pub loop-square-preserved : goal.loop-square-preserved
loop-square-preserved c =
    let first = c.in-Some.ensures.taken in
    let at : c.from-at.result ≡ c.in-Some.square = c.from-at.ensures ∙ c.index.ensures.value in
    lowering_next (λ q. rank q ≡ last_rank c.args.color) (λ b. (a : ℕ → ℕ → ℕ) × ((q e : ℕ) → q < 64 → e < 16 → rank q ≡ last_rank c.args.color → b q e ≤ a q e) × AreBelow a c.args.piece.now)
    c.loop-square.left c.pop_first.new.self c.in-Some.square c.args.pawns.now c.loop-square.pawns _ first c.in-Some.ensures.rest
    (λ on b h below. lower_put b c.loop-square.pawns c.from-at.result c.in-Some.square (get_or c.args.piece.now c.from-at.result []) c.lesser.result at first.on_board c.lesser.ensures below
    (λ e le. subst (λ (i : ℕ). b c.in-Some.square e ≤ cell c.args.piece.now i e) (sym at) (omega (arith, h.1 c.in-Some.square e first.on_board le on, h.2 c.in-Some.square e first.on_board le)))) c.loop-square.invariant

pub returns : goal.returns
returns c = λ a b order piece old. c.loop-square.invariant.below b (a, order, piece) old
