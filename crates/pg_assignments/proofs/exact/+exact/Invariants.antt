use Rattle.pg_assignments.proofs.Common.{◌+◌, ◌*◌, cost, IsLeast, IsFree}
use Rattle.pg_assignments.proofs.SearchLemmas.{IsViaBelow}
use Rattle.pg_assignments.proofs.exact.+exact.Given as goal

abbrev pub decreases-search : goal.decreases-search
decreases-search l = 2 * l.rows

abbrev pub decreases-via : goal.decreases-via
decreases-via l = 2 * l.row + 1

abbrev pub invariant-search-loop-column : goal.invariant-search-loop-column
invariant-search-loop-column l = IsLeast (IsViaBelow (cost l.costs) (IsFree l.free) l.row l.column) l.least
