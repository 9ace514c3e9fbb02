use Rattle.pg_report.proofs.Common.{rules, Appends, has, known_line, facts_text, on_ok}
use Rattle.pg_report.proofs.WithinLemmas.{facts_grow}
use Rattle.pg_report.proofs.within.write_facts.Goals as goal

pub returns : goal.returns
returns g c = record {
  text =
      on_ok c.write_line.result (Appends (g.W.Sink.held c.args.out.now) (g.W.Sink.held c.write_line.new.out) (known_line c.args.color (has c.lands.result) (has c.stays.result))) (Appends (g.W.Sink.held c.args.out.now) (g.W.Sink.held c.write_line.new.out) (facts_text c.args.facts.now c.args.color))
      (facts_grow c.args.facts.now c.args.color c.lands.result c.stays.result (g.W.Sink.held c.args.out.now) (g.W.Sink.held c.write_line.new.out) c.lands.ensures c.stays.ensures)
      c.write_line.ensures.text;
  runs = search rules;
  fault = search rules;
}
