use Rattle.pg_page.proofs.Common.{rules, arith, codes, Appends, on_ok, verdict_words}
use Rattle.pg_page.proofs.HeadLemmas.{cooked_grows}
use Rattle.pg_page.proofs.heading.write_count.Goals as goal

pub returns-in_ok-write_number : goal.returns-in_ok-write_number
returns-in_ok-write_number g c = record {
  text =
      on_ok c.push-else-count-eq1.result (Appends (g.W.Sink.held c.write_number.new.out) (g.W.Sink.held c.push-else-count-eq1.new.self) (codes " games of ")) (Appends (g.W.Sink.held c.args.out.now) (g.W.Sink.held c.push-else-count-eq1.new.self) (verdict_words c.args.count))
      (cooked_grows c.args.count _ _ _ (omega arith) (omega arith) c.in_ok-write_number.ensures.text)
      c.push-else-count-eq1.ensures.bytes;
  runs = search rules;
  fault = search rules;
}
