use Rattle.pg_certificate.proofs.HeaderLaws.{headers_refused}
use Rattle.pg_certificate.proofs.laws.refuses_what_is_no_header.Goals as goal

pub returns : goal.returns
returns c = headers_refused
