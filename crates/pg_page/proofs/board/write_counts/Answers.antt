use Rattle.pg_page.proofs.Common.{◌∙◌, rules, codes, Appends, counts_text, on_ok}
use Rattle.pg_page.proofs.HeadLemmas.{counts_grow}
use Rattle.pg_page.proofs.board.write_counts.Goals as goal

pub returns : goal.returns
returns g c = record {
  text =
      on_ok c.push.result (Appends (g.W.Sink.held c.write_number-2.new.out) (g.W.Sink.held c.push.new.self) (codes ")")) (Appends (g.W.Sink.held c.args.out.now) (g.W.Sink.held c.push.new.self) (counts_text c.args.board.now))
      (counts_grow c.args.board.now c.from.result c.from-2.result _ _ _ _ (c.from.ensures ∙ c.all_men-white.ensures.value) (c.from-2.ensures ∙ c.all_men-black.ensures.value) c.in_ok-write_number.ensures.text c.in_ok-write_number-2.ensures.text)
      c.push.ensures.bytes;
  runs = search rules;
  fault = search rules;
}
