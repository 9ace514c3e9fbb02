use Rattle.pg_cli.proofs.Common.{refl, subst, sym, true, rules_by, terms, failures, IsFoundRefusal, Refusal}
use Rattle.pg_cli.proofs.StatusLemmas.{has, tells_why}
use Rattle.pg_cli.proofs.checking.check_as_pgn.Goals as goal

pub returns-in-Ok : goal.returns-in-Ok
returns-in-Ok g c =
    let l = c.args.listed.now in
    let t = terms (rules_by (λ b. (goal.Bound-dyn g (b.vtable, b.value)).code_of b.value)
    (λ b. (goal.Bound-dyn g (b.vtable, b.value)).excluded b.value) c.args.bounds.now)
    c.args.records 4194304 (g.S.Source.left c.args.source.now) in
    let failed = failures (g.S.Source.has_failed c.run_listed.new.source) true in
    record {
      headline = has c.send.result c.verdict_status.result _ c.send.ensures.ok (c.in-Ok.ensures.headline, (c.in-Ok.verdict, c.in-Ok.ensures.verdict, c.verdict_status.ensures));
      text = c.send.ensures.text;
      found = tells_why c.send.result _ _ c.send.ensures.err (λ r e. (
        t,
        failed,
        subst (λ (x : Refusal). IsFoundRefusal l.problem.diagram l.problem.length l.games t failed x) (sym e.0) (c.in-Ok.ensures.headline, refl, c.in-Ok.ensures.accepted),
      ));
    }
