use Rattle.pg_journeys.proofs.Common.{◌<◌, length, get_or, arith, sym, ◌∙◌, eqb-true, nat_tests}
use Rattle.pg_journeys.proofs.MemoryLemmas.{steps_kept}
use Rattle.pg_journeys.proofs.memory.find_steps.Goals as goal

pub returns-then-eq : goal.returns-then-eq
returns-then-eq c =
    let low : c.args.place < length c.args.steps.now = grind (arith, nat_tests) in
    steps_kept c.args.steps.now c.args.place c.index-steps-place.result c.index-steps-place-then-eq.result c.args.still low c.index-steps-place-then-eq.is (eqb-true (get_or c.args.steps.now c.args.place c.index-steps-place.result).still c.args.still (sym c.eq.ensures ∙ c.if-eq.true))
