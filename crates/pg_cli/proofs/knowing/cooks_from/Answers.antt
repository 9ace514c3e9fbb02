use Rattle.pg_cli.proofs.Common.{◌∙◌, refl, sym, IsCooksReport}
use Rattle.pg_cooks.specs.declared.fault.CooksRunFault.TheVariants.{Write}
use Rattle.pg_cli.proofs.KnowingLemmas.{found}
use Rattle.pg_cli.proofs.StatusLemmas.{has, has_on, unwritten}
use Rattle.pg_cli.proofs.WrittenLemmas.{handed}
use Rattle.pg_cli.proofs.knowing.cooks_from.Goals as goal

pub returns-in-Ok : goal.returns-in-Ok
returns-in-Ok g c =
    let d = c.args.problem.now.diagram in
    let n = c.args.problem.now.length in
    let list = c.args.games.now in
    let a = c.in-Ok.answer in
    let h = c.in-Ok.ensures.ok in
    let k = c.answer_status.result in
    let is = c.answer_status.ensures in
    record {
      headline = has c.finished.result k _ c.finished.ensures.ok (λ one. found d n a h.2 (sym is ∙ one));
      status = has c.finished.result k _ c.finished.ensures.ok (h.0, (a, h.1, is));
      report = has_on c.finished.result k _ _ c.finished.ensures.ok c.finished.ensures.handed (λ kept.
          let all = handed g.W.Sink.held c.args.out.now c.run_cooks.new.out c.finished.new.out (IsCooksReport d n list a) h.3 kept in (all.0, (a, h.1, is, all.1), all.2));
      err = unwritten c.finished.result _ _ c.finished.ensures.err (λ failed. (Write, refl, (h.0, failed)));
    }

pub returns-in-Err-clause-err : goal.returns-in-Err-clause-err
returns-in-Err-clause-err g c = (c.in-Err.fault, c.refusal_of.ensures, c.in-Err.ensures.err)
