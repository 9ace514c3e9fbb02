use Rattle.pg_journeys.proofs.Common.{refl, arith, get_or_default}
use Rattle.pg_journeys.proofs.EndLemmas.{goal_like, last_like}
use Rattle.pg_journeys.proofs.plans.end_goals.Goals as goal

pub returns-then-e-goals : goal.returns-then-e-goals
returns-then-e-goals c =
    let is = get_or_default c.args.goals.now.squares c.args.e c.index-goals-e.result 0 (omega (arith, c.well_formed, c.if-e-goals.true, c.requires.few)) in
    λ x like end. goal_like x c.args.ground.now c.args.goals.now c.args.e c.only.result c.single.result _ _ like c.requires.few (c.requires.low c.args.e c.if-e-goals.true) c.if-e-goals.true refl is c.single.ensures c.only.ensures.here c.only.ensures.others

pub returns-else-e-goals : goal.returns-else-e-goals
returns-else-e-goals c = λ x like end. last_like x c.args.ground.now c.args.goals.now c.args.e c.theirs.result like c.if-e-goals.false end c.theirs.ensures
