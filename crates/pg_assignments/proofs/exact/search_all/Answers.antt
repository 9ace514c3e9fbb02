use Rattle.pg_assignments.proofs.Common.{cost, Below, IsFree}
use Rattle.pg_assignments.proofs.SearchLemmas.{least_to}
use Rattle.pg_assignments.proofs.exact.search_all.Goals as goal

pub returns : goal.returns
returns c = least_to (cost c.args.costs.now) (IsFree c.first.result) (Below c.args.costs.now.size) c.args.costs.now.size c.search.result (λ j f. (c.first.ensures.is j).0 f) (λ j l. (c.first.ensures.is j).1 l) c.search.ensures
