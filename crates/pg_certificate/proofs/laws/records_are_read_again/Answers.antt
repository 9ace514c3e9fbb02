use Rattle.pg_certificate.proofs.RecordLaws.{records_again}
use Rattle.pg_certificate.proofs.laws.records_are_read_again.Goals as goal

pub returns : goal.returns
returns c = records_again
