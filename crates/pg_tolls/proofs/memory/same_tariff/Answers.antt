use Rattle.pg_tolls.proofs.Common.{sym, ◌∙◌}
use Rattle.pg_tolls.proofs.MemoryLemmas.{same_bytes}
use Rattle.pg_tolls.proofs.memory.same_tariff.Goals as goal

pub returns : goal.returns
returns c = λ t. same_bytes c.args.one.now c.args.another.now (sym c.eq.ensures ∙ t)
