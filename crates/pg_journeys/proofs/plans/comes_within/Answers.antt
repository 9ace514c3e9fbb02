use Rattle.pg_journeys.proofs.Common.{◌∙◌, ap, ℕ, get_or, rules, get_or_default_zero}
use Rattle.pg_journeys.proofs.EndLemmas.{comes_in}
use Rattle.pg_journeys.proofs.plans.comes_within.Goals as goal

pub returns : goal.returns
returns c = comes_in c.args.side.now c.args.man.now c.args.e c.args.n _ c.aim_within-within.result c.contains.result
    (get_or_default_zero c.aim_within-within.result c.from.result c.index-within-from.result (search rules) ∙ ap (λ (i : ℕ). get_or c.aim_within-within.result i 0) (c.from.ensures ∙ c.number.ensures.value))
    c.aim_within-within.ensures c.contains.ensures.bound c.contains.ensures.value
