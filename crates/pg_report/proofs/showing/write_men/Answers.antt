use Rattle.pg_report.proofs.Common.{ap, ◌∙◌, rules, codes, Appends, men, any_man, counted_text, men_text, on_ok}
use Rattle.pg_report.proofs.ShowLemmas.{men_grow}
use Rattle.pg_report.proofs.showing.write_men.Goals as goal

pub returns : goal.returns
returns g c = record {
  text =
      on_ok c.write_counted.result (Appends (g.W.Sink.held c.push.new.self) (g.W.Sink.held c.write_counted.new.out) (counted_text c.from.result (codes " man, captured ") (codes " men, captured "))) (Appends (g.W.Sink.held c.args.out.now) (g.W.Sink.held c.write_counted.new.out) (men_text c.args.diagram.now c.args.color))
      (men_grow c.args.diagram.now c.args.color c.from.result c.as_bytes.result.now (g.W.Sink.held c.args.out.now) (g.W.Sink.held c.push.new.self) (g.W.Sink.held c.write_counted.new.out) (c.as_bytes.ensures.value ∙ c.name_of.ensures) (c.from.ensures ∙ c.all_men-men.ensures.value ∙ ap (men c.args.color any_man) c.board.ensures.value) c.in_ok-push.ensures.bytes)
      c.write_counted.ensures.text;
  runs = search rules;
  fault = search rules;
}
