use Rattle.pg_cooks.proofs.Common.{rules, Appends, AddsSome, on_ok, IsEndText, cook_text}
use Rattle.pg_cooks.proofs.TextLemmas.{end_grows}
use Rattle.pg_cooks.proofs.writing.write_other.Goals as goal

pub returns : goal.returns
returns g c = record {
  text =
      on_ok c.write_parted.result (Appends (g.W.Sink.held c.write_game.new.out) (g.W.Sink.held c.write_parted.new.out) (cook_text c.args.games.now c.args.game.now)) (AddsSome (IsEndText (cook_text c.args.games.now c.args.game.now) c.args.game.now) (g.W.Sink.held c.args.out.now) (g.W.Sink.held c.write_parted.new.out))
      (end_grows (cook_text c.args.games.now c.args.game.now) c.args.game.now (g.W.Sink.held c.args.out.now) (g.W.Sink.held c.write_game.new.out) (g.W.Sink.held c.write_parted.new.out) c.in_ok-write_game.ensures.text)
      c.write_parted.ensures.text;
  runs = search rules;
  fault = search rules;
}
