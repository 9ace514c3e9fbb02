use Rattle.pg_certificate.proofs.HeaderLaws.{headers_again}
use Rattle.pg_certificate.proofs.laws.headers_are_read_again.Goals as goal

pub returns : goal.returns
returns c = headers_again
