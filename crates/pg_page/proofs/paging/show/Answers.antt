use Rattle.pg_page.proofs.Common.{rules, on_ok, Grows, AddsHead}
use Rattle.pg_page.proofs.HeadLemmas.{page_grows}
use Rattle.pg_page.proofs.paging.show.Goals as goal

pub returns : goal.returns
returns g c = record {
  text =
      on_ok c.write_proof.result (Grows (g.W.Sink.held c.write_head.new.out) (g.W.Sink.held c.write_proof.new.out)) (AddsHead c.args.problem.now.diagram c.args.problem.now.length c.args.caption.now.title.now c.args.caption.now.author.now c.args.answer.now (g.W.Sink.held c.args.out.now) (g.W.Sink.held c.write_proof.new.out))
      (page_grows c.args.problem.now.diagram c.args.problem.now.length c.args.caption.now.title.now c.args.caption.now.author.now c.args.answer.now _ _ _ c.in_ok-write_head.ensures.text)
      c.write_proof.ensures.text;
  runs = search rules;
  fault = search rules;
}
