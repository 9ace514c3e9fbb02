use Rattle.pg_upgrade_laws.proofs.ExactUpgrades.{counted_whole, counted_back}
use Rattle.pg_upgrade_laws.proofs.Common.{with_digit_2}
use Rattle.pg_upgrade_laws.proofs.upgrades_exactly.Goals as goal

pub returns : goal.returns
returns c = λ most n bytes fits. (counted_whole most n bytes fits, λ h. counted_back most n bytes (with_digit_2 bytes) h.0 h.1)
