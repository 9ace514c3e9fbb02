use Rattle.pg_page.proofs.Common.{◌∙◌, rules, Appends, answer_text, on_ok}
use Rattle.pg_page.proofs.HeadLemmas.{answer_grows}
use Rattle.pg_page.proofs.heading.write_answer.Goals as goal

pub returns : goal.returns
returns g c = record {
  text =
      on_ok c.push-4.result (Appends (g.W.Sink.held c.write_checked.new.out) (g.W.Sink.held c.push-4.new.self) c.as_bytes-3.result.now) (Appends (g.W.Sink.held c.args.out.now) (g.W.Sink.held c.push-4.new.self) (answer_text c.args.problem.now.length c.args.answer.now))
      (answer_grows c.args.problem.now.length c.len-count.result c.args.answer.now c.as_bytes.result.now c.as_bytes-2.result.now c.as_bytes-3.result.now _ _ _ _ _ _ _ c.len-count.ensures.value (c.as_bytes.ensures.value ∙ c.as_str.ensures.value ∙ c.write-length.ensures.text) (c.as_bytes-2.ensures.value ∙ c.end_words.ensures) c.as_bytes-3.ensures.value c.in_ok-push.ensures.bytes c.in_ok-write_count.ensures.text c.in_ok-push-2.ensures.bytes c.in_ok-push-3.ensures.bytes c.in_ok-write_checked.ensures.text)
      c.push-4.ensures.bytes;
  runs = search rules;
  fault = search rules;
}
