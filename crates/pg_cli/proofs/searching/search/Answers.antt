use Rattle.pg_cli.proofs.Common.{inl, inr}
use Rattle.pg_cli.proofs.EndLemmas.{file_or_search, given_so}
use Rattle.pg_cli.proofs.StatusLemmas.{tells, tells_why}
use Rattle.pg_cli.proofs.searching.search.Goals as goal

pub returns : goal.returns
returns g c =
    let p = c.in-Ok.problem in
    record {
      ok = tells c.search_for.result _ _ c.search_for.ensures.ok (λ s h. given_so c.args.problem p _ c.in-Ok.is h);
      err = tells_why c.search_for.result _ _ c.search_for.ensures.err (λ r h. file_or_search c.args.problem p r c.in-Ok.is h);
    }

pub returns-in-Err : goal.returns-in-Err
returns-in-Err g c = record { ok = tt; err = inr (inl (c.in-Err.fault, c.in-Err.is, c.of_problem.ensures)) }
