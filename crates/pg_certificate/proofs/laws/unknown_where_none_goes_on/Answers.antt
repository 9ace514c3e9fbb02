use Rattle.pg_certificate.proofs.RecordLaws.{unknown_at, at_unknown}
use Rattle.pg_certificate.proofs.laws.unknown_where_none_goes_on.Goals as goal

pub returns : goal.returns
returns c = λ version bytes x fits. (unknown_at version bytes x fits, at_unknown version bytes x fits)
