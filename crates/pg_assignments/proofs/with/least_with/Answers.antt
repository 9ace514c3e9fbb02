use Rattle.pg_assignments.proofs.PinnedLemmas.{least_pinned}
use Rattle.pg_assignments.proofs.with.least_with.Goals as goal

pub returns : goal.returns
returns c = least_pinned c.args.costs.now c.pinned.result c.args.row c.args.column c.least_total.result c.requires.size c.requires.row c.pinned.ensures.size c.pinned.ensures.pinned c.least_total.ensures
