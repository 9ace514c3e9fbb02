use Rattle.pg_texts.proofs.Common.{◌≡◌, take, AddsSome, AreMoveLines}
use Rattle.pg_texts.proofs.moves.write_lines.Given as goal

-- the lines of the moves so far were appended
abbrev pub invariant-loop-m : goal.invariant-loop-m
invariant-loop-m g l = record {
  lines : AddsSome (AreMoveLines l.position (take l.m-index l.moves)) (g.W.Sink.held l.fn.out) (g.W.Sink.held l.out);
  runs : g.W.Sink.has_failed l.out ≡ g.W.Sink.has_failed l.fn.out;
}
