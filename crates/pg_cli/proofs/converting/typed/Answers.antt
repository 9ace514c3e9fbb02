use Rattle.pg_cli.proofs.Common.{List, ℕ, inr, subst, sym, ◌∙◌, IsGivenBy}
use Rattle.pg_cli.proofs.StatusLemmas.{is_of_file}
use Rattle.pg_cli.proofs.converting.typed.Goals as goal

pub returns-in-Ok-clause-ok : goal.returns-in-Ok-clause-ok
returns-in-Ok-clause-ok g c = inr (
  sym c.text_of-moves.ensures ∙ c.is_input.ensures.0 c.if-not-is_input.false,
  subst (λ (name : List ℕ). IsGivenBy g.R.File.Read.remaining g.R.Reader.Read.remaining name c.in-Ok.text.items) c.text_of-moves.ensures c.in-Ok.ensures.bytes,
)

pub returns-in-Err-clause-err : goal.returns-in-Err-clause-err
returns-in-Err-clause-err g c = is_of_file c.in-Err.fault _ c.of_file.result c.of_file.ensures
