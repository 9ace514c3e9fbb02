use Rattle.pg_assignments.proofs.ToldLemmas.{number_none, number_some}
use Rattle.pg_assignments.proofs.with_all.number.Goals as goal

pub returns-in-None : goal.returns-in-None
returns-in-None c = number_none c.args.costs.now c.args.row c.args.column c.least_with.result c.in-None.is c.least_with.ensures

pub returns-in-Some : goal.returns-in-Some
returns-in-Some c = number_some c.args.costs.now c.args.row c.args.column c.in-Some.x c.least_with.result c.requires.size c.in-Some.is c.least_with.ensures
