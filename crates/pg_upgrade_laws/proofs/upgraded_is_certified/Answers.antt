use Rattle.pg_upgrade_laws.proofs.UpgradedFits.{upgraded_certified}
use Rattle.pg_upgrade_laws.proofs.upgraded_is_certified.Goals as goal

pub returns : goal.returns
returns c = upgraded_certified
