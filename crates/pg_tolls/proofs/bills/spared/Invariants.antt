use Rattle.pg_tolls.proofs.Common.{ℕ, ◌<◌, get_or, IsSparedAt}
use Rattle.pg_tolls.proofs.bills.spared.Given as goal

abbrev pub invariant-loop-e : goal.invariant-loop-e
invariant-loop-e l = (e : ℕ) → e < l.e → IsSparedAt l.least (get_or l.costs e 0) l.castled.least (get_or l.castled.costs e 0) l.most
