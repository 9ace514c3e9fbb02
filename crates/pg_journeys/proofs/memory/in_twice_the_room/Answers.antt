use Rattle.pg_journeys.proofs.Common.{refl, arith}
use Rattle.pg_journeys.proofs.MemoryLemmas.{lent_cases, kept_cases}
use Rattle.pg_journeys.proofs.memory.in_twice_the_room.Goals as goal

pub returns : goal.returns
returns c = λ d all.
    (let lent = lent_cases d d refl c.as_mut_slice.result.now c.in_ok-room.room.items c.as_mut_slice.ensures.value (c.in_ok-room.ensures d) in
    kept_cases d d refl c.in_ok-room.room c.remember_all.new.shown (omega arith) (c.remember_all.ensures d lent all))
