use Rattle.pg_texts.proofs.Common.{[], ◌∷◌, rules, Appends, IsMovetext, AddsLine}
use Rattle.pg_texts.proofs.OutcomeLemmas.{on_ok}
use Rattle.pg_texts.proofs.ReportLemmas.{game_line}
use Rattle.pg_texts.proofs.report.write_listed.Goals as goal

pub returns-clause-push : goal.returns-clause-push
returns-clause-push g c = record {
  text =
      on_ok c.push.result (Appends (g.W.Sink.held c.append_game.new.out) (g.W.Sink.held c.push.new.self) (10 ∷ [])) (AddsLine (IsMovetext c.args.game.now) (g.W.Sink.held c.args.out.now) (g.W.Sink.held c.push.new.self))
      (game_line c.args.game.now (g.W.Sink.held c.args.out.now) (g.W.Sink.held c.append_game.new.out) (g.W.Sink.held c.push.new.self) c.in_ok-append_game.ensures.push.text)
      c.push.ensures.bytes;
  runs = search rules;
  fault = search rules;
}
