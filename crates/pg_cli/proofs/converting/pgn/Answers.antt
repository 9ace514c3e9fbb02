use Rattle.pg_cli.proofs.Common.{List, ℕ, inl, inr, subst, sym, codes, found_of, rows_of, spelled, IsGivenBy}
use Rattle.pg_cli.proofs.StatusLemmas.{tells_why}
use Rattle.pg_cli.proofs.converting.pgn.Goals as goal

pub returns-in-Err-clause-err : goal.returns-in-Err-clause-err
returns-in-Err-clause-err g c = inl c.in-Err.ensures.err

pub returns-in-Err-bytes_of-clause-err : goal.returns-in-Err-bytes_of-clause-err
returns-in-Err-bytes_of-clause-err g c = inr (inl c.in-Err-bytes_of.ensures.err)

pub returns-clause-err : goal.returns-clause-err
returns-clause-err g c =
    let name = spelled (codes "FILE") (rows_of (found_of c.args.words.now)) in
    let given = subst (λ (x : List ℕ). IsGivenBy g.R.File.Read.remaining g.R.Reader.Read.remaining name x) (sym c.as_slice.ensures.value) c.in-Ok-bytes_of.ensures.ok in
    tells_why c.pgn_on.result _ _ c.pgn_on.ensures.err (λ r h. inr (inr (c.as_slice.result.now, given, c.in-Ok.letters, c.in-Ok.ensures.ok, _, h)))
