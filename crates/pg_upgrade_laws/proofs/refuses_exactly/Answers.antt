use Rattle.pg_upgrade_laws.proofs.RefusedUpgrades.{upgrades_refused}
use Rattle.pg_upgrade_laws.proofs.refuses_exactly.Goals as goal

pub returns : goal.returns
returns c = upgrades_refused
