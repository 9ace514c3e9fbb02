use Rattle.pg_journeys.proofs.Common.{◌∙◌, ap, ℕ, get_or, rules, get_or_default_zero}
use Rattle.pg_journeys.proofs.NarrowedSteps.{comes_on}
use Rattle.pg_journeys.proofs.narrowing.comes_by.Goals as goal

pub returns : goal.returns
returns c = comes_on c.args.side.now c.args.man.now c.args.e c.args.n c.args.set _ c.aim_within-within.result c.meets.result
    (get_or_default_zero c.aim_within-within.result c.from.result c.index-within-from.result (search rules) ∙ ap (λ (i : ℕ). get_or c.aim_within-within.result i 0) (c.from.ensures ∙ c.number.ensures.value))
    c.aim_within-within.ensures c.meets.ensures
