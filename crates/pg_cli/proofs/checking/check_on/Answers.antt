use Rattle.pg_cli.proofs.Common.{rules_by, terms, failures}
use Rattle.pg_cli.proofs.StatusLemmas.{tells_why}
use Rattle.pg_cli.proofs.checking.check_on.Goals as goal

pub returns : goal.returns
returns g c =
    let t = terms (rules_by (λ b. (goal.Bound-dyn g (b.vtable, b.value)).code_of b.value)
    (λ b. (goal.Bound-dyn g (b.vtable, b.value)).excluded b.value) c.args.bounds.now)
    c.records_of.result 4194304 (g.S.Source.left c.args.source.now) in
    let failed = failures (g.S.Source.has_failed c.check_listed.new.source) (g.W.Sink.has_failed c.check_listed.new.out.inner) in
    record {
      headline = c.check_listed.ensures.headline;
      report = c.check_listed.ensures.report;
      err = tells_why c.check_listed.result _ _ c.check_listed.ensures.err (λ r h. (c.records_of.result, c.records_of.ensures, h));
      found = tells_why c.check_listed.result _ _ c.check_listed.ensures.err (λ r h. (t, failed, h));
      unwritten = c.check_listed.ensures.unwritten;
    }
