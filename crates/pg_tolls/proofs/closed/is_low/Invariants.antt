use Rattle.pg_tolls.proofs.Common.{◌≡◌, true, AreAtMost}
use Rattle.pg_tolls.proofs.closed.is_low.Given as goal

abbrev pub invariant-loop-e : goal.invariant-loop-e
invariant-loop-e l = l.low ≡ true → AreAtMost l.row l.bound l.e
