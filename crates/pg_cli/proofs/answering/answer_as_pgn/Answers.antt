use Rattle.pg_cli.proofs.Common.{refl}
use Rattle.pg_cli.proofs.StatusLemmas.{has_on, unwritten}
use Rattle.pg_cli.proofs.answering.answer_as_pgn.Goals as goal

pub returns-in-Ok : goal.returns-in-Ok
returns-in-Ok g c = record {
  ok = has_on c.send.result c.verdict_status-status.result _ _ c.send.ensures.ok c.send.ensures.text (λ text.
      (c.in-Ok.answer.games, (c.in-Ok.ensures.headline, (c.verdict_on.result, c.verdict_on.ensures, c.verdict_status-status.ensures)), text));
  err = unwritten c.send.result _ _ c.send.ensures.err (λ failed.
      (c.records_of-records.result, c.records_of-records.ensures, (refl, (c.in-Ok.answer, (c.in-Ok.ensures.headline, c.in-Ok.ensures.accepted)))));
}

pub returns-in-Err-clause-err : goal.returns-in-Err-clause-err
returns-in-Err-clause-err g c =
    (c.records_of-records.result, c.records_of-records.ensures, (c.in-Err.ensures.accepted, c.in-Err.ensures.refused, c.in-Err.ensures.tells))
