use Rattle.pg_tolls.proofs.Common.{◌∙◌, fewer, known}
use Rattle.pg_tolls.proofs.FillingLemmas.{spread_next}
use Rattle.pg_tolls.proofs.filling.spread_once.Goals as goal

pub loop-square-smaller : goal.loop-square-smaller
loop-square-smaller c = fewer c.loop-square.left c.pop_first.new.self c.in-Some.square c.in-Some.ensures.taken c.in-Some.ensures.rest

pub loop-square-preserved : goal.loop-square-preserved
loop-square-preserved c =
    spread_next (known c.args.ground.now.facts) c.args.ground.now.color c.args.kind c.args.weight c.args.rows.now c.loop-square.rows c.offer.new.rows c.from.result c.in-Some.square c.steps.result c.grown-offered.result c.requires.piece
    (c.from.ensures ∙ c.index.ensures.value) c.in-Some.ensures.taken.on_board c.steps.ensures c.grown-offered.ensures c.offer.ensures c.loop-square.invariant
