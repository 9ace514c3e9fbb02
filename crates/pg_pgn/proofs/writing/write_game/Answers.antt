use Rattle.pg_pgn.proofs.Common.{subst, rules, codes, Appends, AddsSome, IsGameText, on_ok}
use Rattle.pg_pgn.proofs.WritingLemmas.{game_text}
use Rattle.pg_pgn.proofs.writing.write_game.Goals as goal

pub returns : goal.returns
returns g c = record {
  text =
      on_ok c.push-2.result (Appends (g.W.Sink.held c.write_word.new.out) (g.W.Sink.held c.push-2.new.self) (codes "\n")) (AddsSome (IsGameText c.args.game.now) (g.W.Sink.held c.args.out.now) (g.W.Sink.held c.push-2.new.self))
      (game_text c.args.game.now c.in_ok-n.n (g.W.Sink.held c.args.out.now) (g.W.Sink.held c.push.new.self) (g.W.Sink.held c.write_moves.new.out) (g.W.Sink.held c.write_word.new.out) (g.W.Sink.held c.push-2.new.self)
      (subst (Appends (g.W.Sink.held c.args.out.now) (g.W.Sink.held c.push.new.self)) c.as_bytes.ensures.value c.in_ok-push.ensures.bytes) c.in_ok-n.ensures.text c.in_ok-write_word.ensures.push.text)
      c.push-2.ensures.bytes;
  runs = search rules;
  fault = search rules;
}
