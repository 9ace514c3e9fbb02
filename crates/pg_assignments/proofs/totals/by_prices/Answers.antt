use Rattle.pg_assignments.proofs.Common.{refl}
use Rattle.pg_assignments.proofs.totals.by_prices.Goals as goal

pub returns-else-found-clause-none : goal.returns-else-found-clause-none
returns-else-found-clause-none c = c.if-found.ensures.none refl
