use Rattle.pg_tolls.proofs.MemoryLemmas.{alike_by}
use Rattle.pg_tolls.proofs.memory.are_alike.Goals as goal

pub returns-then-same_claims : goal.returns-then-same_claims
returns-then-same_claims c = λ t. alike_by c.args.color c.args.one.now c.args.another.now (c.same_claims.ensures c.if-same_claims.true) (c.same_men.ensures t)
