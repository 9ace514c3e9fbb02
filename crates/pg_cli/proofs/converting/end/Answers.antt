use Rattle.pg_cli.proofs.Common.{List, ℕ, inl, inr, subst, sym, codes, found_of, rows_of, spelled, IsGivenBy}
use Rattle.pg_cli.specs.Converting.{IsTyped}
use Rattle.pg_cli.proofs.StatusLemmas.{tells_why}
use Rattle.pg_cli.proofs.converting.end.Goals as goal

pub returns-in-Err-clause-err : goal.returns-in-Err-clause-err
returns-in-Err-clause-err g c = inl c.in-Err.ensures.err

pub returns-clause-err : goal.returns-clause-err
returns-clause-err g c =
    let moves = spelled (codes "MOVES") (rows_of (found_of c.args.words.now)) in
    let given = subst (λ (x : List ℕ). IsTyped (IsGivenBy g.R.File.Read.remaining g.R.Reader.Read.remaining) moves x) (sym c.as_slice.ensures.value) c.in-Ok.ensures.ok in
    tells_why c.ends_on.result _ _ c.ends_on.ensures.err (λ r h. inr (c.as_slice.result.now, given, _, h))
