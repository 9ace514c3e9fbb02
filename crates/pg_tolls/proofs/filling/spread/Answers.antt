use Rattle.pg_tolls.proofs.filling.spread.Goals as goal

pub loop-preserved : goal.loop-preserved
loop-preserved c = λ b numbers within old. c.spread_once-next.ensures b numbers within (c.loop.invariant b numbers within old)
