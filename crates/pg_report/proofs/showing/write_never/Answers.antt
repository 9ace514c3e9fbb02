use Rattle.pg_report.proofs.Common.{◌++◌, ◌∙◌, rules, codes, Appends, reason_text, on_ok}
use Rattle.pg_report.proofs.ShowLemmas.{never_grows}
use Rattle.pg_report.proofs.showing.write_never.Goals as goal

pub returns : goal.returns
returns g c = record {
  text =
      on_ok c.push-3.result (Appends (g.W.Sink.held c.push-2.new.self) (g.W.Sink.held c.push-3.new.self) (codes "\n")) (Appends (g.W.Sink.held c.args.out.now) (g.W.Sink.held c.push-3.new.self) (codes "cannot stand so in 64.0 moves or less" ++ (reason_text c.args.reason ++ codes "\n")))
      (never_grows c.args.reason c.as_bytes.result.now (g.W.Sink.held c.args.out.now) (g.W.Sink.held c.push.new.self) (g.W.Sink.held c.push-2.new.self) (g.W.Sink.held c.push-3.new.self) (c.as_bytes.ensures.value ∙ c.reason_words.ensures) c.in_ok-push.ensures.bytes c.in_ok-push-2.ensures.bytes)
      c.push-3.ensures.bytes;
  runs = search rules;
  fault = search rules;
}
