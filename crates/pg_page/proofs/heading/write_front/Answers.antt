use Rattle.pg_page.proofs.Common.{◌∙◌, rules, Appends, board_text, front_text, on_ok}
use Rattle.pg_page.proofs.HeadLemmas.{front_grows}
use Rattle.pg_page.proofs.heading.write_front.Goals as goal

pub returns : goal.returns
returns g c = record {
  text =
      on_ok c.write_board.result (Appends (g.W.Sink.held c.write_headed.new.out) (g.W.Sink.held c.write_board.new.out) (board_text c.args.problem.now.diagram)) (Appends (g.W.Sink.held c.args.out.now) (g.W.Sink.held c.write_board.new.out) (front_text c.args.problem.now.diagram c.args.problem.now.length c.args.caption.now.title.now c.args.caption.now.author.now))
      (front_grows c.args.problem.now.diagram c.args.problem.now.length c.from.result c.args.caption.now.title.now c.args.caption.now.author.now c.as_str.result.now c.as_str-length.result.now _ _ _ _ _ _ _ _ (c.as_str.ensures.value ∙ c.write-placement.ensures.text) (c.as_str-length.ensures.value ∙ c.write-length.ensures.text) (cc) c.in_ok-write_named.ensures.text c.in_ok-write_escaped.ensures.text c.in_ok-write_around.ensures.text c.in_ok-write_number.ensures.text c.in_ok-push.ensures.bytes c.in_ok-write_headed.ensures.text)
      c.write_board.ensures.text;
  runs = search rules;
  fault = search rules;
}
