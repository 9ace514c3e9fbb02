use Rattle.pg_cli.proofs.Common.{inr, refl, rules_by, bytes_of, terms, sink_of}
use Rattle.pg_page.specs.declared.fault.PageFault.TheVariants.{Write}
use Rattle.pg_cli.proofs.StatusLemmas.{on_ok, unwritten}
use Rattle.pg_cli.proofs.WrittenLemmas.{held_by, or_list, page_kept}
use Rattle.pg_cli.proofs.paging.page_on.Goals as goal

pub returns-in-Ok : goal.returns-in-Ok
returns-in-Ok g c =
    let h = c.in-Ok.ensures.right in
    let t = terms (rules_by (λ b. (goal.Bound-dyn g (b.vtable, b.value)).code_of b.value) (λ b. (goal.Bound-dyn g (b.vtable, b.value)).excluded b.value) c.args.bounds.now) c.records_of-records.result 4194304 (bytes_of c.args.opened.now (g.S.Source.left c.args.source.now)) in
    record {
      head = on_ok c.finished.result _ _ c.finished.ensures.handed (λ kept. (c.records_of-records.result, c.records_of-records.ensures, page_kept t c.args.opened.now.diagram c.args.opened.now.plies _ _ _ _ (held_by g.W.Sink.held c.args.out.now) (held_by g.W.Sink.held c.page.new.out) (g.W.Sink.held (sink_of c.finished.new.out)) c.text_of.ensures c.text_of-2.ensures c.in-Ok.ensures.head kept));
      zero = c.finished.ensures.ok;
      silent = inr (h.0.games, h.1);
      err = unwritten c.finished.result _ _ c.finished.ensures.err (λ failed. (c.records_of-records.result, c.records_of-records.ensures, (Write, refl, (h, failed))));
    }

pub returns-in-Err-clause-err : goal.returns-in-Err-clause-err
returns-in-Err-clause-err g c = (c.records_of-records.result, c.records_of-records.ensures, (c.in-Err.fault, c.refusal_of.ensures, c.in-Err.ensures.err))

pub returns-in-Err-clause-silent : goal.returns-in-Err-clause-silent
returns-in-Err-clause-silent g c =
    let t = terms (rules_by (λ b. (goal.Bound-dyn g (b.vtable, b.value)).code_of b.value) (λ b. (goal.Bound-dyn g (b.vtable, b.value)).excluded b.value) c.args.bounds.now) c.records_of-records.result 4194304 (bytes_of c.args.opened.now (g.S.Source.left c.args.source.now)) in
    or_list t c.args.opened.now.diagram c.args.opened.now.plies c.page.ensures.silent
