use Rattle.pg_journeys.proofs.MemoryLemmas.{table_is}
use Rattle.pg_journeys.proofs.memory.steps_in.Goals as goal

pub returns : goal.returns
returns c = table_is c.steps_of-found.result c.args.still c.steps_of-found.ensures
