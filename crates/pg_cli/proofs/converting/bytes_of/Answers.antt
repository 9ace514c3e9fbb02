use Rattle.pg_cli.proofs.Common.{List, ℕ, subst, IsGivenBy}
use Rattle.pg_cli.proofs.StatusLemmas.{is_of_file}
use Rattle.pg_cli.proofs.converting.bytes_of.Goals as goal

pub returns-in-Ok-clause-ok : goal.returns-in-Ok-clause-ok
returns-in-Ok-clause-ok g c = subst (λ (name : List ℕ). IsGivenBy g.R.File.Read.remaining g.R.Reader.Read.remaining name c.in-Ok.text.items) c.text_of.ensures c.in-Ok.ensures.bytes

pub returns-in-Err-clause-err : goal.returns-in-Err-clause-err
returns-in-Err-clause-err g c = is_of_file c.in-Err.fault _ c.of_file.result c.of_file.ensures
