-- What a status or a refusal says of what was asked, it says of the command and its words.
use Rattle.pg_cli.proofs.Common.{inl, inr, found_of, rows_of, IsGivenBy, IsNamedBy}
use Rattle.pg_cli.proofs.EndLemmas.{asked_refused, asked_says}
use Rattle.pg_cli.proofs.StatusLemmas.{tells, tells_why}
use Rattle.pg_cli.proofs.perform.Goals as goal

pub returns-in-Err : goal.returns-in-Err
returns-in-Err g c = record { ok = tt; err = inl c.in-Err.ensures }

pub returns-in-Ok-asked_by : goal.returns-in-Ok-asked_by
returns-in-Ok-asked_by g c =
    let rows = rows_of (found_of c.args.words.now) in
    let names = IsNamedBy g.R.File.Read.remaining g.R.Reader.Read.remaining in
    let gives = IsGivenBy g.R.File.Read.remaining g.R.Reader.Read.remaining in
    let is = c.in-Ok-asked_by.ensures.ok in
    record {
      ok = tells c.lend.result _ _ c.lend.ensures.ok (λ s h. asked_says names gives c.args.command rows c.in-Ok-asked_by.asked s is h);
      err = tells_why c.lend.result _ _ c.lend.ensures.err (λ r h. asked_refused names gives c.args.command rows c.in-Ok-asked_by.asked r is h);
    }

pub returns-in-Err-asked_by : goal.returns-in-Err-asked_by
returns-in-Err-asked_by g c = record { ok = tt; err = inr c.in-Err-asked_by.ensures.err }
