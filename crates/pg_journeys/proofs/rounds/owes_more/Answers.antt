use Rattle.pg_journeys.proofs.Budgets.{owes_too_much}
use Rattle.pg_journeys.proofs.Common.{known}
use Rattle.pg_journeys.proofs.rounds.owes_more.Goals as goal

pub returns-in-None : goal.returns-in-None
returns-in-None c = λ f t. owes_too_much (known f) c.args.course.now.diagram.now c.args.course.now.position.now c.args.course.now.left c.args.color c.in-None.ensures.none
