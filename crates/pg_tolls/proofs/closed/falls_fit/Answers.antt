use Rattle.pg_tolls.proofs.Common.{fewer}
use Rattle.pg_tolls.proofs.closed.falls_fit.Goals as goal

pub loop-square-smaller : goal.loop-square-smaller
loop-square-smaller c = fewer c.loop-square.left c.pop_first.new.self c.in-Some.square c.in-Some.ensures.taken c.in-Some.ensures.rest
