use Rattle.pg_upgrade_laws.proofs.UpgradedFits.{certified_upgraded}
use Rattle.pg_upgrade_laws.proofs.certified_is_upgraded.Goals as goal

pub returns : goal.returns
returns c = certified_upgraded
