use Rattle.pg_cooks.proofs.Common.{rules, on_ok, AddsSome, AreGameLines, IsKnownText}
use Rattle.pg_cooks.proofs.TextLemmas.{known_grows}
use Rattle.pg_cooks.proofs.writing.write_known.Goals as goal

pub returns : goal.returns
returns g c = record {
  text =
      on_ok c.write_games.result (AddsSome (AreGameLines c.args.games.now) (g.W.Sink.held c.write_head.new.out) (g.W.Sink.held c.write_games.new.out)) (AddsSome (IsKnownText c.args.diagram.now c.args.length c.args.games.now) (g.W.Sink.held c.args.out.now) (g.W.Sink.held c.write_games.new.out))
      (known_grows c.args.diagram.now c.args.length c.len.result c.args.games.now (g.W.Sink.held c.args.out.now) (g.W.Sink.held c.write_head.new.out) (g.W.Sink.held c.write_games.new.out) c.len.ensures.value c.in_ok-write_head.ensures.text)
      c.write_games.ensures.text;
  runs = search rules;
  fault = search rules;
}
