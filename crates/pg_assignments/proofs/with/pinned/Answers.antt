use Rattle.pg_assignments.proofs.Common.{arith}
use Rattle.pg_assignments.proofs.PinnedLemmas.{pinned_by, no_costs, no_costs_at}
use Rattle.pg_assignments.proofs.with.pinned.Goals as goal

pub returns-clause-pinned : goal.returns-clause-pinned
returns-clause-pinned c = pinned_by c.args.costs.now c.args.costs.now.size c.args.row c.args.column c.at.result no_costs (omega (arith, c.well_formed, c.requires.row)) c.requires.column no_costs_at c.at.ensures
