use Rattle.pg_page.proofs.Common.{rules, codes, Appends, caption_text, headed_text, MEN, on_ok}
use Rattle.pg_page.proofs.HeadLemmas.{framed_grows}
use Rattle.pg_page.proofs.heading.write_headed.Goals as goal

pub returns : goal.returns
returns g c = record {
  text =
      on_ok c.push-3.result (Appends (g.W.Sink.held c.write_caption.new.out) (g.W.Sink.held c.push-3.new.self) (codes "</h1>\n")) (Appends (g.W.Sink.held c.args.out.now) (g.W.Sink.held c.push-3.new.self) (headed_text (caption_text c.args.caption.now.title.now c.args.caption.now.author.now c.args.length.now)))
      (framed_grows c.as_bytes.result.now MEN.now (codes "<h1>") (caption_text c.args.caption.now.title.now c.args.caption.now.author.now c.args.length.now) (codes "</h1>\n") _ _ _ _ _ c.as_bytes.ensures.value c.in_ok-push.ensures.bytes c.in_ok-push-2.ensures.bytes c.in_ok-write_caption.ensures.text)
      c.push-3.ensures.bytes;
  runs = search rules;
  fault = search rules;
}
