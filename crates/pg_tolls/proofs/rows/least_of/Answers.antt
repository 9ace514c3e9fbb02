use Rattle.pg_tolls.proofs.Common.{◌∙◌, fewer}
use Rattle.pg_tolls.proofs.RowLemmas.{least_next}
use Rattle.pg_tolls.proofs.rows.least_of.Goals as goal

pub loop-square-smaller : goal.loop-square-smaller
loop-square-smaller c = fewer c.loop-square.left c.pop_first.new.self c.in-Some.square c.in-Some.ensures.taken c.in-Some.ensures.rest

pub loop-square-preserved : goal.loop-square-preserved
loop-square-preserved c =
    least_next c.args.rows.now c.args.squares c.loop-square.left c.pop_first.new.self c.in-Some.square c.from.result c.loop-square.least c.lesser-next.result (c.from.ensures ∙ c.index.ensures.value)
    c.in-Some.ensures.taken c.in-Some.ensures.rest c.lesser-next.ensures c.loop-square.invariant
