use Rattle.pg_page.proofs.Common.{◌∙◌, rules, codes, Appends, board_text, on_ok}
use Rattle.pg_page.proofs.HeadLemmas.{board_grows}
use Rattle.pg_page.proofs.board.write_board.Goals as goal

pub returns : goal.returns
returns g c = record {
  text =
      on_ok c.push-4.result (Appends (g.W.Sink.held c.write_escaped.new.out) (g.W.Sink.held c.push-4.new.self) (codes "</code></figcaption></figure>\n")) (Appends (g.W.Sink.held c.args.out.now) (g.W.Sink.held c.push-4.new.self) (board_text c.args.diagram.now))
      (board_grows c.args.diagram.now c.board-board.result c.as_str.result.now _ _ _ _ _ _ _ _ c.board-board.ensures.value (c.as_str.ensures.value ∙ c.write.ensures.text) c.in_ok-push.ensures.bytes c.in_ok-write_men.ensures.text c.in_ok-push-2.ensures.bytes c.in_ok-write_counts.ensures.text c.in_ok-push-3.ensures.bytes c.in_ok-write_escaped.ensures.text)
      c.push-4.ensures.bytes;
  runs = search rules;
  fault = search rules;
}
