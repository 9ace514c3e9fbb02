use Rattle.pg_page.proofs.Common.{rules, codes, Appends, AddsSome, on_ok, IsGameItem}
use Rattle.pg_page.proofs.HeadLemmas.{item_grows}
use Rattle.pg_page.proofs.heading.write_game.Goals as goal

pub returns : goal.returns
returns g c = record {
  text =
      on_ok c.push-3.result (Appends (g.W.Sink.held c.write_words.new.out) (g.W.Sink.held c.push-3.new.self) (codes "</span></li>\n")) (AddsSome (IsGameItem c.args.game.now) (g.W.Sink.held c.args.out.now) (g.W.Sink.held c.push-3.new.self))
      (item_grows c.args.game.now _ _ _ _ _ _ c.in_ok-push.ensures.bytes c.in_ok-write_moves.ensures.text c.in_ok-push-2.ensures.bytes c.in_ok-write_words.ensures.text)
      c.push-3.ensures.bytes;
  runs = search rules;
  fault = search rules;
}
