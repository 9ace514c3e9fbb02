use Rattle.pg_journeys.proofs.Common.{ℕ, ◌<◌}
use Rattle.pg_journeys.proofs.WhoIsReached.{IsFar}
use Rattle.pg_journeys.proofs.needs.is_reached_in.Given as goal

abbrev pub invariant-loop-i : goal.invariant-loop-i
invariant-loop-i l = (j : ℕ) → j < l.i → IsFar l.side l.way l.e j
