use Rattle.pg_assignments.proofs.Common.{arith}
use Rattle.pg_assignments.proofs.TableLemmas.{beyond_none, beyond_some}
use Rattle.pg_assignments.proofs.totals.by_searches.Goals as goal

pub returns-then-total-most-clause-none : goal.returns-then-total-most-clause-none
returns-then-total-most-clause-none c = λ t. beyond_some c.args.costs.now c.args.most c.in-Some.total (omega (arith, c.if-total-most.true)) c.in-Some.ensures

pub returns-in-None-clause-none : goal.returns-in-None-clause-none
returns-in-None-clause-none c = λ t. beyond_none c.args.costs.now c.args.most c.in-None.ensures
