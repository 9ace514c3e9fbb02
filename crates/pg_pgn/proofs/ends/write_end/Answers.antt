use Rattle.pg_pgn.proofs.Common.{ap, codes, rules, ◌∙◌, Appends, AddsSome, placement_text, on_ok, labelled_text, IsEndText}
use Rattle.pg_pgn.proofs.EndLemmas.{end_lines}
use Rattle.pg_pgn.proofs.ends.write_end.Goals as goal

pub returns : goal.returns
returns g c = record {
  text =
      on_ok c.write_labelled-3.result (Appends (g.W.Sink.held c.write_labelled-2.new.out) (g.W.Sink.held c.write_labelled-3.new.out) (labelled_text (codes "fen ") c.as_str-3.result.now)) (AddsSome (IsEndText c.args.game.now) (g.W.Sink.held c.args.out.now) (g.W.Sink.held c.write_labelled-3.new.out))
      (end_lines c.args.game.now c.as_str.result.now c.as_str-2.result.now c.as_str-3.result.now c.end_of-end.result.last c.end_of-end.result.still c.number_of.result c.number_of-2.result (g.W.Sink.held c.args.out.now) (g.W.Sink.held c.write_game.new.out) (g.W.Sink.held c.write_labelled.new.out) (g.W.Sink.held c.write_labelled-2.new.out) (g.W.Sink.held c.write_labelled-3.new.out) c.end_of-end.ensures (c.as_str.ensures.value ∙ c.write.ensures.text ∙ ap placement_text c.of.ensures) (c.as_str-2.ensures.value ∙ c.length_of.ensures) (c.as_str-3.ensures.value ∙ c.write_position.ensures.text) c.number_of.ensures c.number_of-2.ensures c.in_ok-write_game.ensures.text c.in_ok-write_labelled.ensures.text c.in_ok-write_labelled-2.ensures.text)
      c.write_labelled-3.ensures.text;
  runs = search rules;
  fault = search rules;
}
