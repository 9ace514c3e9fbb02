use Rattle.pg_travel.proofs.Common.{ℕ, subst, IsUnreached}
use Rattle.pg_travel.proofs.least_rows.least_off.Goals as goal

pub returns : goal.returns
returns c = record { none = c.unreached.result; unreached = subst (λ (n : ℕ). IsUnreached n c.unreached.result) c.men.ensures c.unreached.ensures; lowered = c.lowered_by_all.ensures }
