use Rattle.pg_cli.proofs.Common.{IsReport}
use Rattle.pg_cli.proofs.StatusLemmas.{but_for_sink, checked_alone, has, on_ok, unwritten}
use Rattle.pg_cli.proofs.WrittenLemmas.{handed}
use Rattle.pg_cli.proofs.checking.check_listed.Goals as goal

pub returns-in-Ok : goal.returns-in-Ok
returns-in-Ok g c =
    let l = c.args.listed.now in
    record {
      headline = has c.finished.result c.verdict_status.result _ c.finished.ensures.ok (c.in-Ok.ensures.headline, (c.in-Ok.verdict, c.in-Ok.ensures.verdict, c.verdict_status.ensures));
      report = on_ok c.finished.result _ _ c.finished.ensures.handed (handed g.W.Sink.held c.args.out.now c.run_listed.new.out c.finished.new.out (IsReport l.problem.diagram l.problem.length l.games) c.in-Ok.ensures.text);
      err = unwritten c.finished.result _ _ c.finished.ensures.err (λ failed. (c.in-Ok.ensures.headline, failed, c.in-Ok.ensures.accepted));
      unwritten = but_for_sink c.finished.result _ _ c.finished.ensures.err;
    }

pub returns-in-Err-clause-unwritten : goal.returns-in-Err-clause-unwritten
returns-in-Err-clause-unwritten g c = checked_alone c.in-Err.fault _ c.in-Err.ensures.unwritten
