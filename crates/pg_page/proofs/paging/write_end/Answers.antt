use Rattle.pg_page.proofs.Common.{rules, codes, Appends, on_ok, Grows, grows_more}
use Rattle.pg_page.proofs.paging.write_end.Goals as goal

pub returns : goal.returns
returns g c = record {
  text =
      on_ok c.push.result (Appends (g.W.Sink.held c.write_all.new.out) (g.W.Sink.held c.push.new.self) (codes "</script>\n</body>\n</html>\n")) (Grows (g.W.Sink.held c.args.out.now) (g.W.Sink.held c.push.new.self))
      (grows_more _ _ _ _ c.in_ok-write_all.ensures.text)
      c.push.ensures.bytes;
  runs = search rules;
  fault = search rules;
}
