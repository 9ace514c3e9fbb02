use Rattle.pg_tolls.proofs.Common.{accounts_law}
use Rattle.pg_tolls.proofs.laws.accounts_law.Goals as goal

pub returns : goal.returns
returns c = accounts_law
