use Rattle.pg_journeys.proofs.Budgets.{owes_too_much}
use Rattle.pg_journeys.proofs.spending.budgets_of.Goals as goal

pub returns-in_default-clause-none : goal.returns-in_default-clause-none
returns-in_default-clause-none c = λ f. owes_too_much f c.args.course.now.diagram.now c.args.course.now.position.now c.args.course.now.left c.args.color c.in_default.ensures.none

pub returns-in_default-budget-clause-none : goal.returns-in_default-budget-clause-none
returns-in_default-budget-clause-none c = λ f. owes_too_much f c.args.course.now.diagram.now c.args.course.now.position.now c.args.course.now.left c.args.color c.in_default-budget.ensures.none
