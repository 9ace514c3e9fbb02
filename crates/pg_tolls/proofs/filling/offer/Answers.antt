use Rattle.pg_tolls.proofs.Common.{◌≡◌, true, ◌∙◌, has, fewer, IsOffer}
use Rattle.pg_tolls.proofs.FillingLemmas.{lowering_next, lower_put}
use Rattle.pg_tolls.proofs.filling.offer.Goals as goal

pub loop-square-smaller : goal.loop-square-smaller
loop-square-smaller c = fewer c.loop-square.left c.pop_first.new.self c.in-Some.square c.in-Some.ensures.taken c.in-Some.ensures.rest

pub loop-square-preserved : goal.loop-square-preserved
loop-square-preserved c =
    let first = c.in-Some.ensures.taken in
    lowering_next (λ s. has c.args.squares s ≡ true) (λ b. IsOffer b c.args.squares c.args.offered.now) c.loop-square.left c.pop_first.new.self c.in-Some.square c.args.rows.now c.loop-square.rows _ first c.in-Some.ensures.rest
    (λ on b off below. lower_put b c.loop-square.rows c.from-at.result c.in-Some.square c.args.offered.now c.lesser-lower.result (c.from-at.ensures ∙ c.index.ensures.value) first.on_board c.lesser-lower.ensures below
    (λ e le. off c.in-Some.square e first.on_board le on)) c.loop-square.invariant
