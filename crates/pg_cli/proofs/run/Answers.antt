use Rattle.pg_cli.proofs.Common.{◌⊎◌, inr, found_of, rows_of, IsGivenBy, IsUnready, refuses}
use Rattle.pg_cli.proofs.CommandLemmas.{named}
use Rattle.pg_cli.proofs.run.Goals as goal

pub returns-else-screen-2-clause-end : goal.returns-else-screen-2-clause-end
returns-else-screen-2-clause-end g c =
    let gives = IsGivenBy g.R.File.Read.remaining g.R.Reader.Read.remaining in
    let refusal = c.in-Err.refusal in
    inr (
      refusal,
      named c.args.words.now c.in-Some.name.now (rows_of (found_of c.in-Some.inner.now)) c.in-Some-named.command
          (λ command rows. IsUnready refusal ⊎ refuses gives command rows refusal)
          c.in-Some.ensures.name c.in-Some.ensures.rows c.in-Some-named.ensures c.in-Err.ensures.err,
      c.refuse-status.ensures.value,
    )
