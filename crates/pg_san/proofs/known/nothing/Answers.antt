use Rattle.pg_san.proofs.Common.{arith}
use Rattle.pg_san.proofs.KnownLemmas.{says_nothing}
use Rattle.pg_san.proofs.known.nothing.Goals as goal

pub returns : goal.returns
returns c = says_nothing _ (omega arith)
