use Rattle.pg_page.proofs.Common.{◌∙◌, ap, rules, codes, Appends, letter_of, man_text, on_ok}
use Rattle.pg_page.proofs.HeadLemmas.{man_grows}
use Rattle.pg_page.proofs.board.write_man.Goals as goal

pub returns : goal.returns
returns g c = record {
  text =
      on_ok c.push-2.result (Appends (g.W.Sink.held c.write_number-2.new.out) (g.W.Sink.held c.push-2.new.self) (codes "\" width=\"1\" height=\"1\"/>")) (Appends (g.W.Sink.held c.args.out.now) (g.W.Sink.held c.push-2.new.self) (man_text c.args.man c.args.square))
      (man_grows c.args.man c.args.square c.from.result c.from-2.result c.letter_of.result c.class_of.result.now _ _ _ _ _ _ c.class_of.ensures (c.letter_of.ensures.value ∙ ap letter_of c.new.ensures) (cc) (cc) c.in_ok-write_around.ensures.text c.in_ok-push.ensures.bytes c.in_ok-write_number.ensures.text c.in_ok-write_number-2.ensures.text)
      c.push-2.ensures.bytes;
  runs = search rules;
  fault = search rules;
}
