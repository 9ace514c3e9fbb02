use Rattle.pg_page.proofs.Common.{◌≡◌, Grows}
use Rattle.pg_page.proofs.paging.write_all.Given as goal

-- some text was appended
abbrev pub invariant-loop-text : goal.invariant-loop-text
invariant-loop-text g l = record {
  text : Grows (g.W.Sink.held l.fn.out) (g.W.Sink.held l.out);
  runs : g.W.Sink.has_failed l.out ≡ g.W.Sink.has_failed l.fn.out;
}
