use Rattle.pg_tolls.proofs.Common.{◌≡◌, ◌+◌, ◌<◌, ◌≤◌, ℕ, true, ap, arith, ◌∙◌, Color, other, fewer, known, stated, raised}
use Rattle.pg_tolls.proofs.FillingLemmas.{lowering_next, write_below}
use Rattle.pg_tolls.proofs.filling.add_falls.Goals as goal

pub loop-square-smaller : goal.loop-square-smaller
loop-square-smaller c = fewer c.loop-square.left c.pop_first.new.self c.in-Some.square c.in-Some.ensures.taken c.in-Some.ensures.rest

pub loop-square-preserved : goal.loop-square-preserved
loop-square-preserved c =
    let first = c.in-Some.ensures.taken in
    let toll : c.raised.result ≡ raised (stated c.args.tariff.now) (other c.args.ground.now.color) c.in-Some.square =
    c.raised.ensures.value ∙ ap (λ (x : Color). raised (stated c.args.tariff.now) x c.in-Some.square) c.other-by.ensures in
    lowering_next (λ s. (known c.args.ground.now.facts).lands (other c.args.ground.now.color) s ≡ true)
    (λ b. (s : ℕ) → s < 64 → (known c.args.ground.now.facts).lands (other c.args.ground.now.color) s ≡ true → b s 15 + raised (stated c.args.tariff.now) (other c.args.ground.now.color) s ≤ 255)
    c.loop-square.left c.pop_first.new.self c.in-Some.square c.args.rows.now c.loop-square.rows _ first c.in-Some.ensures.rest
    (λ on b falls below. write_below b c.loop-square.rows c.from-at.result c.in-Some.square 15 _ (c.from-at.ensures ∙ c.index.ensures.value) first.on_board
    (omega (arith, falls c.in-Some.square first.on_board on, toll)) below) c.loop-square.invariant
