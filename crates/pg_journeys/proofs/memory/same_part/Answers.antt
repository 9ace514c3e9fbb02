use Rattle.pg_journeys.proofs.MemoryLemmas.{alike}
use Rattle.pg_journeys.proofs.memory.same_part.Goals as goal

pub returns : goal.returns
returns c = λ t color facts. alike c.args.one.now c.args.another.now c.passed_in.result c.passed_in-2.result (c.same_square.ensures c.if-not-same_square.false) c.passed_in.ensures c.passed_in-2.ensures (c.same_own.ensures c.if-not-same_own.false) (c.same_rights.ensures c.if-not-same_rights.false) (c.same_means.ensures.plies t) (c.same_means.ensures.victims t) color facts
