use Rattle.pg_san.proofs.OneTextLemmas.{one_text}
use Rattle.pg_san.proofs.laws.one_text.Goals as goal

pub returns : goal.returns
returns c = one_text
