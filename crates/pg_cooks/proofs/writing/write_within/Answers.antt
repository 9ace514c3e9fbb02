use Rattle.pg_cooks.proofs.Common.{◌∙◌, ap, rules, decimal, Appends, on_ok, within_text}
use Rattle.pg_cooks.proofs.TextLemmas.{within_grows}
use Rattle.pg_cooks.proofs.writing.write_within.Goals as goal

pub returns-in_ok-push-in-Some-2 : goal.returns-in_ok-push-in-Some-2
returns-in_ok-push-in-Some-2 g c = record {
  text =
      on_ok c.push-in-Some-2.result (Appends (g.W.Sink.held c.push-in-Some.new.self) (g.W.Sink.held c.push-in-Some-2.new.self) c.as_bytes-in-Some.result.now) (Appends (g.W.Sink.held c.args.out.now) (g.W.Sink.held c.push-in-Some-2.new.self) (within_text c.args.foreign))
      (within_grows c.args.foreign c.in-Some.n c.as_bytes.result.now c.as_bytes-in-Some.result.now (g.W.Sink.held c.args.out.now) (g.W.Sink.held c.push.new.self) (g.W.Sink.held c.push-in-Some.new.self) (g.W.Sink.held c.push-in-Some-2.new.self) c.in-Some.is
      (c.as_bytes.ensures.value ∙ c.deref.ensures.0 ∙ c.digits.ensures ∙ ap decimal c.from.ensures) (c.as_bytes-in-Some.ensures.value ∙ c.foreign_words.ensures) c.in_ok-push-in-Some.ensures.bytes c.in_ok-push-in-Some-2.ensures.bytes)
      c.push-in-Some-2.ensures.bytes;
  runs = search rules;
  fault = search rules;
}
