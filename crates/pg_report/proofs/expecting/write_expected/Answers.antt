use Rattle.pg_report.proofs.Common.{◌∙◌, rules, Appends, expected_text, on_ok}
use Rattle.pg_report.proofs.ShowLemmas.{expected_grows}
use Rattle.pg_report.proofs.expecting.write_expected.Goals as goal

pub returns-in_ok-write_range-in-Some : goal.returns-in_ok-write_range-in-Some
returns-in_ok-write_range-in-Some g c = record {
  text =
      on_ok c.push-in-Some-2.result (Appends (g.W.Sink.held c.write_range.new.out) (g.W.Sink.held c.push-in-Some-2.new.self) c.as_bytes.result.now)
      (Appends (g.W.Sink.held c.args.out.now) (g.W.Sink.held c.push-in-Some-2.new.self) (expected_text c.args.expected))
      (expected_grows c.args.expected c.in-Some.expected c.as_bytes.result.now
      (g.W.Sink.held c.args.out.now) (g.W.Sink.held c.push-in-Some.new.self) (g.W.Sink.held c.write_range.new.out) (g.W.Sink.held c.push-in-Some-2.new.self)
      c.in-Some.is (c.as_bytes.ensures.value ∙ c.end_words.ensures)
      c.in_ok-push-in-Some.ensures.bytes c.in_ok-write_range-in-Some.ensures.text)
      c.push-in-Some-2.ensures.bytes;
  runs = search rules;
  fault = search rules;
}
