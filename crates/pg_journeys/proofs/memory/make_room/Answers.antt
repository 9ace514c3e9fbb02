use Rattle.pg_journeys.proofs.Common.{refl}
use Rattle.pg_journeys.proofs.MemoryLemmas.{lent_cases}
use Rattle.pg_journeys.proofs.memory.make_room.Goals as goal

pub returns-in-Ok : goal.returns-in-Ok
returns-in-Ok c = λ d all. c.in-Ok.ensures d (lent_cases d d refl c.as_slice-2.result.now c.args.shown.now.items c.as_slice-2.ensures.value all)
