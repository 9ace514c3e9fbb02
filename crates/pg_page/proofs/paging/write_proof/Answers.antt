use Rattle.pg_page.proofs.Common.{rules, on_ok, Grows, grows_on}
use Rattle.pg_page.proofs.paging.write_proof.Goals as goal

pub returns : goal.returns
returns g c = record {
  text =
      on_ok c.write_end.result (Grows (g.W.Sink.held c.tell.new.out) (g.W.Sink.held c.write_end.new.out)) (Grows (g.W.Sink.held c.args.out.now) (g.W.Sink.held c.write_end.new.out))
      (grows_on _ _ _ (grows_on _ _ _ c.in_ok-write_viewer.ensures.text c.in_ok-tell.ensures.text))
      c.write_end.ensures.text;
  runs = search rules;
  fault = search rules;
}
