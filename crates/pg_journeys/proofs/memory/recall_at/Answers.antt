use Rattle.pg_journeys.proofs.Common.{◌<◌, length, arith, nat_tests}
use Rattle.pg_journeys.proofs.MemoryLemmas.{recalled}
use Rattle.pg_journeys.proofs.memory.recall_at.Goals as goal

pub returns-then-tells : goal.returns-then-tells
returns-then-tells c = λ d all.
    (let low : c.args.place < length c.args.shown.now = grind (arith, nat_tests) in
    recalled d c.args.shown.now c.args.place c.index-shown-place.result c.index-shown-place-then-tells.result c.args.case.now all low c.index-shown-place.is c.index-shown-place-then-tells.is (c.tells.ensures c.if-tells.true))
