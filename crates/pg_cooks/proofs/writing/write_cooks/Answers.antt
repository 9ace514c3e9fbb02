use Rattle.pg_cooks.proofs.Common.{rules, AddsSome, on_ok, IsAnswerText, IsCooksReport}
use Rattle.pg_cooks.proofs.TextLemmas.{cooks_grow}
use Rattle.pg_cooks.proofs.writing.write_cooks.Goals as goal

pub returns : goal.returns
returns g c = record {
  text =
      on_ok c.write_answer.result (AddsSome (IsAnswerText c.args.games.now c.args.answer.now) (g.W.Sink.held c.write_known.new.out) (g.W.Sink.held c.write_answer.new.out)) (AddsSome (IsCooksReport c.args.diagram.now c.args.length c.args.games.now c.args.answer.now) (g.W.Sink.held c.args.out.now) (g.W.Sink.held c.write_answer.new.out))
      (cooks_grow c.args.diagram.now c.args.length c.args.games.now c.args.answer.now (g.W.Sink.held c.args.out.now) (g.W.Sink.held c.write_known.new.out) (g.W.Sink.held c.write_answer.new.out) c.in_ok-write_known.ensures.text)
      c.write_answer.ensures.text;
  runs = search rules;
  fault = search rules;
}
