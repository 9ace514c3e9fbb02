use Rattle.pg_cli.proofs.Common.{inl, inr}
use Rattle.pg_report.specs.Showing.{IsShown}
use Rattle.pg_cli.proofs.ShowLemmas.{unshown}
use Rattle.pg_cli.proofs.StatusLemmas.{on_ok, unwritten}
use Rattle.pg_cli.proofs.WrittenLemmas.{handed}
use Rattle.pg_cli.proofs.positions.show_on.Goals as goal

pub returns-in-Err-clause-err : goal.returns-in-Err-clause-err
returns-in-Err-clause-err g c = inl c.in-Err.ensures.err

pub returns-in-Ok-run_show : goal.returns-in-Ok-run_show
returns-in-Ok-run_show g c =
    let h = c.in-Ok-run_show.ensures.ok in
    let d = c.in-Ok.board.diagram in
    let asked = c.in-Ok.board.asked in
    let spells = c.in-Ok.ensures.spelled in
    record {
      ok = on_ok c.finished.result _ _ c.finished.ensures.handed (λ kept. (d, asked, spells, (h.0, h.1, h.2, handed g.W.Sink.held c.args.out.now c.run_show.new.out c.finished.new.out (IsShown d asked h.0) h.3 kept)));
      zero = c.finished.ensures.ok;
      err = unwritten c.finished.result _ _ c.finished.ensures.err (λ failed. inr (d, asked, spells, failed));
    }

pub returns-in-Err-run_show-clause-err : goal.returns-in-Err-run_show-clause-err
returns-in-Err-run_show-clause-err g c = inr (c.in-Ok.board.diagram, c.in-Ok.board.asked, c.in-Ok.ensures.spelled, unshown _ c.in-Err-run_show.fault c.in-Err-run_show.ensures.err)
