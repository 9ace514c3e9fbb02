use Rattle.pg_tolls.proofs.Common.{◌≡◌, get_or, least_of}
use Rattle.pg_tolls.proofs.bills.least.Given as goal

abbrev pub invariant-loop-e : goal.invariant-loop-e
invariant-loop-e l = record { is : l.least ≡ least_of (λ e. get_or l.row e 0) l.e }
