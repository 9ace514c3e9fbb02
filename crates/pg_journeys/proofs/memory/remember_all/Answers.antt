use Rattle.pg_journeys.proofs.Common.{◌<◌, length, arith, nat_tests}
use Rattle.pg_journeys.proofs.MemoryLemmas.{told_there}
use Rattle.pg_journeys.proofs.memory.remember_all.Goals.{then-other, else-other}
use Rattle.pg_journeys.proofs.memory.remember_all.Goals as goal

pub loop-other-preserved : goal.loop-other-preserved
loop-other-preserved c = λ d all others.
    (let low : c.loop-other.other-index < length c.args.others.now = grind (arith, nat_tests) in
    elim c.if-other.branch [
      | then-other w ↦ rw w.shown-is (w.remember.ensures d (c.loop-other.invariant d all others) (told_there d c.args.others.now c.loop-other.other-index c.other-item.result others low c.other-item.is w.if-other.true))
      | else-other w ↦ rw w.shown-is (c.loop-other.invariant d all others)
    ])
