use Rattle.pg_texts.proofs.Common.{◌∙◌, rules, codes, Appends, labelled_text, head_text}
use Rattle.pg_texts.proofs.OutcomeLemmas.{on_ok}
use Rattle.pg_texts.proofs.ReportLemmas.{head_grows}
use Rattle.pg_texts.proofs.report.write_head.Goals as goal

pub returns : goal.returns
returns g c = record {
  text =
      on_ok c.write_labelled-3.result (Appends (g.W.Sink.held c.write_labelled-2.new.out) (g.W.Sink.held c.write_labelled-3.new.out) (labelled_text (codes "games ") c.as_str-3.result.now)) (Appends (g.W.Sink.held c.args.out.now) (g.W.Sink.held c.write_labelled-3.new.out) (head_text c.args.diagram.now c.args.length c.args.count))
      (head_grows c.args.diagram.now c.args.length c.args.count c.as_str.result.now c.as_str-2.result.now c.as_str-3.result.now (g.W.Sink.held c.args.out.now) (g.W.Sink.held c.write_labelled.new.out) (g.W.Sink.held c.write_labelled-2.new.out) (g.W.Sink.held c.write_labelled-3.new.out) (c.as_str.ensures.value ∙ c.write.ensures.text) (c.as_str-2.ensures.value ∙ c.write-2.ensures.text) (c.as_str-3.ensures.value ∙ c.digits.ensures) c.in_ok-write_labelled.ensures.text c.in_ok-write_labelled-2.ensures.text)
      c.write_labelled-3.ensures.text;
  runs = search rules;
  fault = search rules;
}
