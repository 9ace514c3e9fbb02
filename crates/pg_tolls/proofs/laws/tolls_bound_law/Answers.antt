use Rattle.pg_tolls.proofs.Common.{tolls_barren}
use Rattle.pg_tolls.proofs.laws.tolls_bound_law.Goals as goal

pub returns : goal.returns
returns c = tolls_barren
