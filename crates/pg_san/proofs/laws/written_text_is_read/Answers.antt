use Rattle.pg_san.proofs.LawLemmas.{read_again}
use Rattle.pg_san.proofs.laws.written_text_is_read.Goals as goal

pub returns : goal.returns
returns c = read_again
