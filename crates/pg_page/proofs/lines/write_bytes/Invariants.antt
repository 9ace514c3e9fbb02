use Rattle.pg_page.proofs.Common.{◌≡◌, take, Appends, escaped}
use Rattle.pg_page.proofs.lines.write_bytes.Given as goal

-- the characters so far were appended
abbrev pub invariant-loop-byte : goal.invariant-loop-byte
invariant-loop-byte g l = record {
  text : Appends (g.W.Sink.held l.fn.out) (g.W.Sink.held l.out) (escaped (take l.byte-index l.bytes));
  runs : g.W.Sink.has_failed l.out ≡ g.W.Sink.has_failed l.fn.out;
}
