use Rattle.pg_san.proofs.LawLemmas.{itself, no_other}
use Rattle.pg_san.proofs.laws.written_text_is_matched.Goals as goal

pub returns-clause-itself : goal.returns-clause-itself
returns-clause-itself c = itself

pub returns-clause-no_other : goal.returns-clause-no_other
returns-clause-no_other c = no_other
