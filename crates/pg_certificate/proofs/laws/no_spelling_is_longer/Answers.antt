use Rattle.pg_certificate.proofs.RecordLaws.{none_longer}
use Rattle.pg_certificate.proofs.laws.no_spelling_is_longer.Goals as goal

pub returns-clause-longest : goal.returns-clause-longest
returns-clause-longest c = none_longer
