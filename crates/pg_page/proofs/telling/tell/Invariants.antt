use Rattle.pg_page.proofs.Common.{◌≡◌, Grows}
use Rattle.pg_page.proofs.telling.tell.Given as goal

-- some text was appended
abbrev pub invariant-loop-item : goal.invariant-loop-item
invariant-loop-item g l = record {
  text : Grows (g.W.Sink.held l.fn.out) (g.W.Sink.held l.out);
  runs : g.W.Sink.has_failed l.out ≡ g.W.Sink.has_failed l.fn.out;
}
