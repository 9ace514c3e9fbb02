use Rattle.pg_travel.proofs.SourceLemmas.{sixteen_are}
use Rattle.pg_travel.proofs.sources.sixteen.Goals as goal

pub returns : goal.returns
returns c = sixteen_are c.args.prices.now c.copy_from_slice.new.self c.args.first c.min-from.result c.min-to.result c.min-from.ensures c.min-to.ensures c.copy_from_slice.ensures.after
