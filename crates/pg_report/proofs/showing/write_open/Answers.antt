use Rattle.pg_report.proofs.Common.{◌∙◌, rules, codes, Appends, open_line, on_ok}
use Rattle.pg_report.proofs.ShowLemmas.{open_grows}
use Rattle.pg_report.proofs.showing.write_open.Goals as goal

pub returns-in_ok-push-in-Some-2 : goal.returns-in_ok-push-in-Some-2
returns-in_ok-push-in-Some-2 g c = record {
  text =
      on_ok c.push-in-Some-3.result (Appends (g.W.Sink.held c.push-in-Some-2.new.self) (g.W.Sink.held c.push-in-Some-3.new.self) (codes "\n")) (Appends (g.W.Sink.held c.args.out.now) (g.W.Sink.held c.push-in-Some-3.new.self) (open_line c.args.least))
      (open_grows c.args.least c.in-Some.length c.as_bytes.result.now (g.W.Sink.held c.args.out.now) (g.W.Sink.held c.push-in-Some.new.self) (g.W.Sink.held c.push-in-Some-2.new.self) (g.W.Sink.held c.push-in-Some-3.new.self) c.in-Some.is (c.as_bytes.ensures.value ∙ c.deref.ensures.0 ∙ c.write.ensures.text) c.in_ok-push-in-Some.ensures.bytes c.in_ok-push-in-Some-2.ensures.bytes)
      c.push-in-Some-3.ensures.bytes;
  runs = search rules;
  fault = search rules;
}
