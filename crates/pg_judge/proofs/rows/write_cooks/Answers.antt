use Rattle.pg_judge.proofs.Common.{◌++◌, codes, decimal, rules, Appends, on_ok, cooks_text}
use Rattle.pg_judge.proofs.RowLemmas.{cooks_grow}
use Rattle.pg_judge.proofs.rows.write_cooks.Goals as goal

pub returns-in-Some : goal.returns-in-Some
returns-in-Some g c = record {
  text =
      on_ok c.write_number.result (Appends (g.W.Sink.held c.args.out.now) (g.W.Sink.held c.write_number.new.out) (codes "; no cook with at most " ++ (decimal c.from.result ++ c.foreign_words.result.now))) (Appends (g.W.Sink.held c.args.out.now) (g.W.Sink.held c.write_number.new.out) (cooks_text c.args.foreign))
      (cooks_grow c.args.foreign c.in-Some.n c.from.result c.foreign_words.result.now (g.W.Sink.held c.args.out.now) (g.W.Sink.held c.write_number.new.out) c.in-Some.is c.from.ensures c.foreign_words.ensures)
      c.write_number.ensures.text;
  runs = search rules;
  fault = search rules;
}
