use Rattle.pg_journeys.proofs.Common.{ℕ, ◌<◌, IsReachedOf}
use Rattle.pg_journeys.proofs.needs.unreached_of.Given as goal

abbrev pub invariant-loop-e : goal.invariant-loop-e
invariant-loop-e l = (j : ℕ) → j < l.e → IsReachedOf l.side j
