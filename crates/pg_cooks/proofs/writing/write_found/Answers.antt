use Rattle.pg_cooks.proofs.Common.{rules, Appends, AddsSome, on_ok, IsEndText, unsound_text}
use Rattle.pg_cooks.proofs.TextLemmas.{end_grows}
use Rattle.pg_cooks.proofs.writing.write_found.Goals as goal

pub returns : goal.returns
returns g c = record {
  text =
      on_ok c.write_line.result (Appends (g.W.Sink.held c.write_game.new.out) (g.W.Sink.held c.write_line.new.out) unsound_text) (AddsSome (IsEndText unsound_text c.args.game.now) (g.W.Sink.held c.args.out.now) (g.W.Sink.held c.write_line.new.out))
      (end_grows unsound_text c.args.game.now (g.W.Sink.held c.args.out.now) (g.W.Sink.held c.write_game.new.out) (g.W.Sink.held c.write_line.new.out) c.in_ok-write_game.ensures.text)
      c.write_line.ensures.text;
  runs = search rules;
  fault = search rules;
}
