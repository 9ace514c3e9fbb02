use Rattle.pg_san.proofs.LawLemmas.{differ}
use Rattle.pg_san.proofs.laws.texts_differ.Goals as goal

pub returns : goal.returns
returns c = differ
