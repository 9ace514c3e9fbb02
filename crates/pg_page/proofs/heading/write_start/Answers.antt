use Rattle.pg_page.proofs.Common.{rules, arith, codes, Appends, on_ok, list_start}
use Rattle.pg_page.proofs.HeadLemmas.{folded_grows}
use Rattle.pg_page.proofs.heading.write_start.Goals as goal

pub returns-in_ok-write_number : goal.returns-in_ok-write_number
returns-in_ok-write_number g c = record {
  text =
      on_ok c.push-else-count-le20.result (Appends (g.W.Sink.held c.write_number.new.out) (g.W.Sink.held c.push-else-count-le20.new.self) (codes " games</summary>\n<ol id=\"games\">\n")) (Appends (g.W.Sink.held c.args.out.now) (g.W.Sink.held c.push-else-count-le20.new.self) (list_start c.args.count))
      (folded_grows c.args.count _ _ _ (omega arith) c.in_ok-write_number.ensures.text)
      c.push-else-count-le20.ensures.bytes;
  runs = search rules;
  fault = search rules;
}
