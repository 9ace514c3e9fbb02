use Rattle.pg_pgn.proofs.Common.{◌≡◌, ◌≤◌, AddsMoves}
use Rattle.pg_pgn.proofs.writing.write_moves.Given as goal

-- the moves so far lead to the position, and were appended
abbrev pub invariant-loop-ply : goal.invariant-loop-ply
invariant-loop-ply g l = record {
  grows : AddsMoves l.game l.ply l.n l.position (g.W.Sink.held l.fn.out) (g.W.Sink.held l.out);
  same : g.W.Sink.has_failed l.out ≡ g.W.Sink.has_failed l.fn.out;
  small : l.n ≤ 88;
}
