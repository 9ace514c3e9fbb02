use Rattle.pg_journeys.proofs.Common.{sym, subst, ℕ, HasSteps}
use Rattle.pg_journeys.proofs.known.add_all.Goals as goal

pub add_both-requires-clause-steps : goal.add_both-requires-clause-steps
add_both-requires-clause-steps c = subst (λ (n : ℕ). HasSteps n c.steps_table-table.result) (sym c.facts_with.ensures) c.steps_table-table.ensures

pub add_both-requires-2-clause-steps : goal.add_both-requires-2-clause-steps
add_both-requires-2-clause-steps c = subst (λ (n : ℕ). HasSteps n c.steps_table-table.result) (sym c.facts_with-2.ensures) c.steps_table-table.ensures

pub add_both-requires-3-clause-steps : goal.add_both-requires-3-clause-steps
add_both-requires-3-clause-steps c = subst (λ (n : ℕ). HasSteps n c.steps_table-table.result) (sym c.facts_with-3.ensures) c.steps_table-table.ensures

pub add_both-requires-4-clause-steps : goal.add_both-requires-4-clause-steps
add_both-requires-4-clause-steps c = subst (λ (n : ℕ). HasSteps n c.steps_table-table.result) (sym c.facts_with-4.ensures) c.steps_table-table.ensures
