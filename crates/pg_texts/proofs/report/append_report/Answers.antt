use Rattle.pg_texts.proofs.Common.{List, ℕ, subst, rules, Appends, line_text}
use Rattle.pg_texts.proofs.ReportLemmas.{report_grows}
use Rattle.pg_texts.proofs.report.append_report.Goals as goal

pub returns-clause-push : goal.returns-clause-push
returns-clause-push g c = record {
  text =
      report_grows c.args.diagram.now c.args.length c.len.result c.args.games.now c.verdict_on-verdict.result (g.W.Sink.held c.args.out.now) (g.W.Sink.held c.write_head.new.out) (g.W.Sink.held c.write_games.new.out) (g.W.Sink.held c.write_line.new.out) c.len.ensures.value c.verdict_on-verdict.ensures c.in_ok-write_head.ensures.text c.in_ok-write_games.ensures.text
      (subst (λ (t : List ℕ). Appends (g.W.Sink.held c.write_games.new.out) (g.W.Sink.held c.write_line.new.out) (line_text t)) c.words.ensures c.in_ok-write_line.ensures.text);
  runs = search rules;
  fault = search rules;
}
