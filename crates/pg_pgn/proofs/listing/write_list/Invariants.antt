use Rattle.pg_pgn.proofs.Common.{◌≡◌, take, AddsSome, AreGameLines}
use Rattle.pg_pgn.proofs.listing.write_list.Given as goal

-- the lines of the games so far were appended
abbrev pub invariant-loop-i : goal.invariant-loop-i
invariant-loop-i g l = record {
  lines : AddsSome (AreGameLines (take l.i l.games)) (g.W.Sink.held l.fn.out) (g.W.Sink.held l.out);
  runs : g.W.Sink.has_failed l.out ≡ g.W.Sink.has_failed l.fn.out;
}
