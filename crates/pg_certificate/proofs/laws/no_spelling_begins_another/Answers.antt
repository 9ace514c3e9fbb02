use Rattle.pg_certificate.proofs.RecordLaws.{records_apart}
use Rattle.pg_certificate.proofs.laws.no_spelling_begins_another.Goals as goal

pub returns : goal.returns
returns c = records_apart
