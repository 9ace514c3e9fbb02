use Rattle.pg_certificate.proofs.Common.{arith}
use Rattle.pg_certificate.proofs.HeaderLemmas.{header_made}
use Rattle.pg_certificate.proofs.magic.header_of.Goals as goal

pub returns : goal.returns
returns c = header_made c.args.text.now _ _ (omega arith) c.in_ok-version.ensures c.copy_from_slice.ensures.after
