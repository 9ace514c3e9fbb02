use Rattle.pg_tolls.proofs.Common.{◌+◌, ℕ, ap₂, ◌∙◌, fewer, known, stated}
use Rattle.pg_tolls.proofs.FillingLemmas.{takes_next}
use Rattle.pg_tolls.proofs.filling.offer_marked.Goals as goal

pub loop-square-smaller : goal.loop-square-smaller
loop-square-smaller c = fewer c.loop-square.left c.pop_first.new.self c.in-Some.square c.in-Some.ensures.taken c.in-Some.ensures.rest

pub loop-square-preserved : goal.loop-square-preserved
loop-square-preserved c =
    takes_next (stated c.args.tariff.now) (known c.args.ground.now.facts) c.args.ground.now.color c.args.kind c.args.before.now c.args.rows.now c.loop-square.rows c.offer.new.rows c.from.result c.in-Some.square c.steps.result (c.weight.result + c.raised.result) c.grown-offered.result c.requires.piece
    (c.from.ensures ∙ c.index.ensures.value) c.in-Some.ensures.taken.on_board (ap₂ (λ (m n : ℕ). m + n) c.weight.ensures.value c.raised.ensures.value) c.steps.ensures c.grown-offered.ensures c.offer.ensures c.loop-square.invariant
