use Rattle.pg_pgn.proofs.Common.{◌≡◌, take, AddsSome, IsPgnText}
use Rattle.pg_pgn.proofs.writing.write_pgn.Given as goal

-- the games so far were appended
abbrev pub invariant-loop-i : goal.invariant-loop-i
invariant-loop-i g l = record {
  grows : AddsSome (IsPgnText (take l.i l.games)) (g.W.Sink.held l.fn.out) (g.W.Sink.held l.out);
  same : g.W.Sink.has_failed l.out ≡ g.W.Sink.has_failed l.fn.out;
}
