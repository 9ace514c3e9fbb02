use Rattle.pg_cooks.proofs.Common.{rules, codes, AddsSome, line_text, on_ok, IsCookText, IsEndText, cook_text}
use Rattle.pg_cooks.proofs.TextLemmas.{found_grows}
use Rattle.pg_cooks.proofs.writing.write_cook.Goals as goal

pub returns : goal.returns
returns g c = record {
  text =
      on_ok c.write_other.result (AddsSome (IsEndText (cook_text c.args.games.now c.args.game.now) c.args.game.now) (g.W.Sink.held c.write_line.new.out) (g.W.Sink.held c.write_other.new.out)) (AddsSome (IsCookText c.args.games.now c.args.game.now) (g.W.Sink.held c.args.out.now) (g.W.Sink.held c.write_other.new.out))
      (found_grows (line_text (codes "another game")) (cook_text c.args.games.now c.args.game.now) c.args.game.now (g.W.Sink.held c.args.out.now) (g.W.Sink.held c.write_line.new.out) (g.W.Sink.held c.write_other.new.out) c.in_ok-write_line.ensures.text)
      c.write_other.ensures.text;
  runs = search rules;
  fault = search rules;
}
