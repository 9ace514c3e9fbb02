-- What a status or a refusal says, it says of what is asked.
use Rattle.pg_cli.proofs.Common.{subst, found_of, rows_of, OpenedState, IsGivenBy, says_of_certificate}
use Rattle.pg_cli.proofs.EndLemmas.{opened_there, said_as, unsaid_as}
use Rattle.pg_cli.proofs.StatusLemmas.{claims_nothing, tells, tells_why}
use Rattle.pg_cli.proofs.serve.Goals as goal

pub returns-in-Words : goal.returns-in-Words
returns-in-Words g c =
    let rows = rows_of (found_of c.args.words.now) in
    let gives = IsGivenBy g.R.File.Read.remaining g.R.Reader.Read.remaining in
    record {
      ok = tells c.on_list.result _ _ c.on_list.ensures (λ s h. said_as gives rows c.args.asked _ s c.in-Words.is h);
      err = tells_why c.on_list.result _ _ (claims_nothing c.on_list.result) (λ r h. unsaid_as gives rows c.args.asked _ r c.in-Words.is h);
    }

pub returns-in-Check : goal.returns-in-Check
returns-in-Check g c =
    let rows = rows_of (found_of c.args.words.now) in
    let gives = IsGivenBy g.R.File.Read.remaining g.R.Reader.Read.remaining in
    record {
      ok = tells c.check.result _ _ c.check.ensures.ok (λ s h. said_as gives rows c.args.asked _ s c.in-Check.is h);
      err = tells_why c.check.result _ _ c.check.ensures.err (λ r h. unsaid_as gives rows c.args.asked _ r c.in-Check.is h);
    }

pub returns-in-Search : goal.returns-in-Search
returns-in-Search g c =
    let rows = rows_of (found_of c.args.words.now) in
    let gives = IsGivenBy g.R.File.Read.remaining g.R.Reader.Read.remaining in
    record {
      ok = tells c.search.result _ _ c.search.ensures.ok (λ s h. said_as gives rows c.args.asked _ s c.in-Search.is h);
      err = tells_why c.search.result _ _ c.search.ensures.err (λ r h. unsaid_as gives rows c.args.asked _ r c.in-Search.is h);
    }

pub returns-in-File : goal.returns-in-File
returns-in-File g c =
    let rows = rows_of (found_of c.args.words.now) in
    let gives = IsGivenBy g.R.File.Read.remaining g.R.Reader.Read.remaining in
    record {
      ok = tells c.tell.result _ _ c.tell.ensures (λ s h. said_as gives rows c.args.asked _ s c.in-File.is
          (subst (λ (x : OpenedState). says_of_certificate c.in-File.command x.diagram x.plies s) (opened_there _ _ c.deref_mut-in-File.ensures.value) h));
      err = tells_why c.tell.result _ _ (claims_nothing c.tell.result) (λ r h. unsaid_as gives rows c.args.asked _ r c.in-File.is h);
    }

pub returns-in-Other : goal.returns-in-Other
returns-in-Other g c =
    let rows = rows_of (found_of c.args.words.now) in
    let gives = IsGivenBy g.R.File.Read.remaining g.R.Reader.Read.remaining in
    record {
      ok = tells c.other.result _ _ c.other.ensures.ok (λ s h. said_as gives rows c.args.asked _ s c.in-Other.is h);
      err = tells_why c.other.result _ _ c.other.ensures.err (λ r h. unsaid_as gives rows c.args.asked _ r c.in-Other.is h);
    }
