use Rattle.pg_report.proofs.Common.{◌++◌, ◌∙◌, rules, codes, Appends, length_text, on_ok}
use Rattle.pg_report.proofs.WithinLemmas.{no_game_grows}
use Rattle.pg_report.proofs.within.write_no_game.Goals as goal

pub returns : goal.returns
returns g c = record {
  text =
      on_ok c.push-3.result (Appends (g.W.Sink.held c.push-2.new.self) (g.W.Sink.held c.push-3.new.self) (codes " moves\n")) (Appends (g.W.Sink.held c.args.out.now) (g.W.Sink.held c.push-3.new.self) (codes "no game of " ++ (length_text c.args.length.now ++ codes " moves\n")))
      (no_game_grows c.args.length.now c.as_bytes.result.now (g.W.Sink.held c.args.out.now) (g.W.Sink.held c.push.new.self) (g.W.Sink.held c.push-2.new.self) (g.W.Sink.held c.push-3.new.self) (c.as_bytes.ensures.value ∙ c.deref.ensures.0 ∙ c.write.ensures.text) c.in_ok-push.ensures.bytes c.in_ok-push-2.ensures.bytes)
      c.push-3.ensures.bytes;
  runs = search rules;
  fault = search rules;
}
