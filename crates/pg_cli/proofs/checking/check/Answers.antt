use Rattle.pg_cli.proofs.Common.{inl, inr, IsUnchecked}
use Rattle.pg_cli.proofs.EndLemmas.{given_so, no_list}
use Rattle.pg_cli.proofs.StatusLemmas.{tells, tells_why}
use Rattle.pg_cli.proofs.checking.check.Goals as goal

pub returns-in-Err : goal.returns-in-Err
returns-in-Err g c = record { ok = tt; err = no_list c.args.problem IsUnchecked c.in-Err.refusal c.in-Err.ensures.err (λ d n h. inl h) }

pub returns : goal.returns
returns g c =
    let l = c.in-Ok.listed in
    let is = c.in-Ok.ensures.problem in
    let text = c.in-Ok.ensures.games in
    record {
      ok = tells c.check_told-answer.result _ _ c.check_told-answer.ensures.headline
          (λ s h. given_so c.args.problem l.problem _ is (text.0, l.games, text.1, h));
      err = tells_why c.check_told-answer.result _ _ c.check_told-answer.ensures.found
          (λ r h. inr (inr (given_so c.args.problem l.problem (λ d n. IsUnchecked d n r) is (inr (text.0, l.games, text.1, h)))));
    }
