use Rattle.pg_journeys.proofs.Common.{refl, sym, subst, ℕ, List, merely, HasSteps}
use Rattle.pg_journeys.specs.declared.facts.Facts.{Facts as FactSets}
use Rattle.pg_journeys.proofs.RestingLemmas.{lifted_few}
use Rattle.pg_journeys.proofs.known.add_color.Goals as goal

pub men_without-goals-requires : goal.men_without-goals-requires
men_without-goals-requires c = lifted_few c.args.goal.now c.args.facts.now.still 16 c.args.color (c.requires.few c.args.color)

pub fill_ends-requires-clause-goals : goal.fill_ends-requires-clause-goals
fill_ends-requires-clause-goals c = record { few = c.men_without-goals.ensures.all.few; low = c.men_without-goals.ensures.all.listing.low }

pub fill_ends-requires-2-clause-goals : goal.fill_ends-requires-2-clause-goals
fill_ends-requires-2-clause-goals c = record { few = c.men_without-goals.ensures.all.few; low = c.men_without-goals.ensures.all.listing.low }

pub invariant_of-push : goal.invariant_of-push
invariant_of-push c = record {
  made = merely (record {
    steps = subst (λ (y : List ℕ). HasSteps c.ground_of-ground.result.facts.still y) (sym c.ground_of-ground.ensures.table) (subst (λ (y : FactSets). HasSteps y.still c.args.table.now) (sym c.ground_of-ground.ensures.facts) c.requires.steps);
    few = c.men_without-goals.ensures.all.few;
    moves = λ x like. c.fill_ends.ensures x like (λ h. refl);
    quiet = λ x like. c.fill_ends-2.ensures x like (λ h. refl);
  });
}
