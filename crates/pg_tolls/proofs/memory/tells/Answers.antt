use Rattle.pg_tolls.proofs.memory.tells.Goals as goal

pub returns-then-kept : goal.returns-then-kept
returns-then-kept c = λ t. (c.if-kept.true, c.are_alike.ensures t)
