use Rattle.pg_certificate.proofs.RecordLaws.{truncated_is_short, short_is_truncated}
use Rattle.pg_certificate.proofs.laws.truncated_where_cut_short.Goals as goal

pub returns : goal.returns
returns c = λ version bytes fits. (truncated_is_short version bytes fits, short_is_truncated version bytes fits)
