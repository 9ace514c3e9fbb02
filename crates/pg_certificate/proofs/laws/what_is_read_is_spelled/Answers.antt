use Rattle.pg_certificate.proofs.RecordLaws.{records_taken}
use Rattle.pg_certificate.proofs.laws.what_is_read_is_spelled.Goals as goal

pub returns : goal.returns
returns c = records_taken
