use Rattle.pg_cli.proofs.Common.{inl, subst, sym, found_of, rows_of, IsGivenBy, refuses, Command}
use Rattle.pg_cli.proofs.asked.asked_by.Goals as goal

pub returns-in-Err-clause-err : goal.returns-in-Err-clause-err
returns-in-Err-clause-err g c =
    subst (λ (x : Command). refuses (IsGivenBy g.R.File.Read.remaining g.R.Reader.Read.remaining) x (rows_of (found_of c.args.words.now)) c.in-Err.refusal) (sym c.in-Check.is) (inl c.in-Err.ensures)
