use Rattle.pg_texts.proofs.Common.{◌≡◌, take, All, IsWritten, AddsSome, AreGameLines}
use Rattle.pg_texts.proofs.report.write_all.Given as goal

-- the lines of the games so far were appended
abbrev pub invariant-loop-i : goal.invariant-loop-i
invariant-loop-i g l = record {
  lines : AddsSome (AreGameLines (take l.i l.games)) (g.W.Sink.held l.fn.out) (g.W.Sink.held l.out);
  runs : g.W.Sink.has_failed l.out ≡ g.W.Sink.has_failed l.fn.out;
  known : All IsWritten l.known;
}
