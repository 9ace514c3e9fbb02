use Rattle.pg_journeys.proofs.Common.{◌∙◌, ap, ℕ, get_or, rules, arith, refl, get_or_default_zero, counted, kind_at}
use Rattle.pg_journeys.proofs.WhoIsReached.{found_in, far_next, none_in, is_so, is_not_so}
use Rattle.pg_journeys.proofs.needs.is_reached_in.Goals as goal

pub returns-then-contains : goal.returns-then-contains
returns-then-contains c = is_so (found_in c.args.side.now c.args.way c.args.e c.loop-i.i _ c.counted-square.result (kind_at c.args.side.now.men c.loop-i.i) c.aim_within-within.result c.contains.result c.requires.goal c.loop-i-test.true
    (c.is_way.ensures.0 c.if-not-is_way.false) c.aim_within-within.ensures refl
    (get_or_default_zero c.aim_within-within.result c.from.result c.index-within-from.result (search rules) ∙ ap (λ (i : ℕ). get_or c.aim_within-within.result i 0) (c.from.ensures ∙ c.number.ensures.value))
    (c.counted-square.ensures ∙ ap (counted c.args.side.now.terrain.color c.args.way) (get_or_default_zero c.args.side.now.men.squares c.loop-i.i c.index-side-i.result (search rules)))
    c.contains.ensures.bound c.contains.ensures.value c.if-contains.true)

pub loop-i-preserved : goal.loop-i-preserved
loop-i-preserved c = far_next c.args.side.now c.args.way c.args.e c.loop-i.i _ c.counted-square.result (kind_at c.args.side.now.men c.loop-i.i) c.aim_within-within.result c.contains.result c.aim_within-within.ensures refl
    (get_or_default_zero c.aim_within-within.result c.from.result c.index-within-from.result (search rules) ∙ ap (λ (i : ℕ). get_or c.aim_within-within.result i 0) (c.from.ensures ∙ c.number.ensures.value))
    (c.counted-square.ensures ∙ ap (counted c.args.side.now.terrain.color c.args.way) (get_or_default_zero c.args.side.now.men.squares c.loop-i.i c.index-side-i.result (search rules)))
    c.contains.ensures.bound c.contains.ensures.value c.if-contains.false c.loop-i.invariant

pub returns : goal.returns
returns c = is_not_so (none_in c.args.side.now c.args.way c.args.e c.requires.goal (λ i l. c.loop-i.invariant i (omega (arith, c.loop-i-test.false, l))))
