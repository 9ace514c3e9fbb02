use Rattle.pg_page.proofs.Common.{◌≡◌}
use Rattle.pg_page.proofs.HeadLemmas.{AreMovesTo}
use Rattle.pg_page.proofs.heading.write_moves.Given as goal

-- the moves so far were appended
abbrev pub invariant-loop-m : goal.invariant-loop-m
invariant-loop-m g l = record {
  moves : AreMovesTo l.game l.m-index l.position (g.W.Sink.held l.fn.out) (g.W.Sink.held l.out);
  runs : g.W.Sink.has_failed l.out ≡ g.W.Sink.has_failed l.fn.out;
}
