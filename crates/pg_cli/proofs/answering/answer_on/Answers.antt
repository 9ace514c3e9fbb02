use Rattle.pg_cli.proofs.Common.{IsReport}
use Rattle.pg_cli.proofs.StatusLemmas.{answered_alone, but_for_sink, has, has_on, unwritten}
use Rattle.pg_cli.proofs.WrittenLemmas.{handed}
use Rattle.pg_cli.proofs.answering.answer_on.Goals as goal

pub returns-in-Ok : goal.returns-in-Ok
returns-in-Ok g c =
    let h = c.in-Ok.ensures.headline in
    let v = c.in-Ok.verdict in
    let is = c.verdict_status.ensures in
    let k = c.verdict_status.result in
    record {
      headline = has c.finished.result k _ c.finished.ensures.ok (h.0.games, (h.1.0, (v, h.2, is)));
      report = has_on c.finished.result k _ _ c.finished.ensures.ok c.finished.ensures.handed (λ kept. (c.records_of-records.result, c.records_of-records.ensures, (v, is, (h.0, h.1, h.2, handed g.W.Sink.held c.args.out.now c.run_answer.new.out c.finished.new.out (IsReport c.args.opened.now.diagram c.args.opened.now.plies h.0.games) h.3 kept))));
      err = unwritten c.finished.result _ _ c.finished.ensures.err (λ failed. (c.records_of-records.result, c.records_of-records.ensures, (failed, (h.0, h.1))));
      unwritten = but_for_sink c.finished.result _ _ c.finished.ensures.err;
    }

pub returns-in-Err-clause-err : goal.returns-in-Err-clause-err
returns-in-Err-clause-err g c = (c.records_of-records.result, c.records_of-records.ensures, c.in-Err.ensures.err)

pub returns-in-Err-clause-unwritten : goal.returns-in-Err-clause-unwritten
returns-in-Err-clause-unwritten g c = answered_alone c.in-Err.fault _ c.in-Err.ensures.unwritten
