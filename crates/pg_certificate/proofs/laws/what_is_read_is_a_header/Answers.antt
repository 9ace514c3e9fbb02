use Rattle.pg_certificate.proofs.HeaderLaws.{headers_only}
use Rattle.pg_certificate.proofs.laws.what_is_read_is_a_header.Goals as goal

pub returns : goal.returns
returns c = headers_only
