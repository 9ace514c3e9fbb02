use Rattle.pg_tolls.proofs.Common.{tariff_law}
use Rattle.pg_tolls.proofs.laws.tariff_law.Goals as goal

pub returns : goal.returns
returns c = tariff_law
