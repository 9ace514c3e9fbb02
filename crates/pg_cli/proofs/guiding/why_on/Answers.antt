use Rattle.pg_cli.proofs.Common.{inr, refl, subst, List, ℕ, any_rules_by, rules_by, bytes_of, terms, failures, IsOneLine, IsWhyFault}
use Rattle.pg_guide.specs.declared.fault.WhyFault.TheVariants.{Write}
use Rattle.pg_cli.proofs.StatusLemmas.{but_for_sink, explained_alone, on_ok, unwritten}
use Rattle.pg_cli.proofs.WrittenLemmas.{or_list, right_kept}
use Rattle.pg_cli.proofs.guiding.why_on.Goals as goal

pub returns-in-Ok : goal.returns-in-Ok
returns-in-Ok g c =
    let h = c.in-Ok.ensures.right in
    record {
      right = on_ok c.finished.result _ _ c.finished.ensures.all (λ all. (h.0.games, h.1));
      zero = c.finished.ensures.ok;
      told = on_ok c.finished.result _ _ c.finished.ensures.handed (λ kept. right_kept _ _ _ c.in-Ok.ensures.told kept);
      silent = inr (h.0.games, h.1);
      err = unwritten c.finished.result _ _ c.finished.ensures.err (λ failed. (c.records_of-records.result, c.records_of-records.ensures, (Write, refl, (subst (λ (x : List ℕ). IsOneLine x) c.text_of-moves.ensures c.in-Ok.ensures.line, h, failed))));
      unwritten = but_for_sink c.finished.result _ _ c.finished.ensures.err;
    }

pub returns-in-Err-clause-err : goal.returns-in-Err-clause-err
returns-in-Err-clause-err g c =
    let t = terms (rules_by (λ b. (goal.Bound-dyn g (b.vtable, b.value)).code_of b.value) (λ b. (goal.Bound-dyn g (b.vtable, b.value)).excluded b.value) c.args.bounds.now) c.records_of-records.result 4194304 (bytes_of c.args.opened.now (g.S.Source.left c.args.source.now)) in
    let any = terms (any_rules_by (λ b. (goal.Bound-dyn g (b.vtable, b.value)).code_of b.value) (λ b. (goal.Bound-dyn g (b.vtable, b.value)).excluded b.value) c.args.bounds.now) c.records_of-records.result 4194304 (bytes_of c.args.opened.now (g.S.Source.left c.args.source.now)) in
    let failed = failures (g.S.Source.has_failed c.why.new.source) (g.W.Sink.has_failed c.why.new.out.inner) in (
      c.records_of-records.result,
      c.records_of-records.ensures,
      (
        c.in-Err.fault,
        c.refusal_of.ensures,
        subst (λ (x : List ℕ). IsWhyFault x t any c.args.opened.now.diagram c.args.opened.now.plies failed c.in-Err.fault) c.text_of-moves.ensures c.in-Err.ensures.err,
      ),
    )

pub returns-in-Err-clause-silent : goal.returns-in-Err-clause-silent
returns-in-Err-clause-silent g c =
    let t = terms (rules_by (λ b. (goal.Bound-dyn g (b.vtable, b.value)).code_of b.value) (λ b. (goal.Bound-dyn g (b.vtable, b.value)).excluded b.value) c.args.bounds.now) c.records_of-records.result 4194304 (bytes_of c.args.opened.now (g.S.Source.left c.args.source.now)) in
    or_list t c.args.opened.now.diagram c.args.opened.now.plies c.why.ensures.silent

pub returns-in-Err-clause-unwritten : goal.returns-in-Err-clause-unwritten
returns-in-Err-clause-unwritten g c = explained_alone c.in-Err.fault c.refusal_of.result _ c.refusal_of.ensures c.in-Err.ensures.unwritten
