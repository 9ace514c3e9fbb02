use Rattle.pg_judge.proofs.Common.{◌∙◌, rules, Appends, on_ok, below_text}
use Rattle.pg_judge.proofs.RowLemmas.{below_grows}
use Rattle.pg_judge.proofs.rows.write_below.Goals as goal

pub returns-in_ok-push-in-Some : goal.returns-in_ok-push-in-Some
returns-in_ok-push-in-Some g c = record {
  text =
      on_ok c.push-in-Some.result (Appends (g.W.Sink.held c.push.new.self) (g.W.Sink.held c.push-in-Some.new.self) c.as_bytes.result.now) (Appends (g.W.Sink.held c.args.out.now) (g.W.Sink.held c.push-in-Some.new.self) (below_text c.args.below.now))
      (below_grows c.args.below.now c.in-Some.length c.as_bytes.result.now (g.W.Sink.held c.args.out.now) (g.W.Sink.held c.push.new.self) (g.W.Sink.held c.push-in-Some.new.self) c.in-Some.is
      (c.as_bytes.ensures.value ∙ c.deref.ensures.0 ∙ c.write.ensures.text) c.in_ok-push-in-Some.ensures.bytes)
      c.push-in-Some.ensures.bytes;
  runs = search rules;
  fault = search rules;
}
