use Rattle.pg_page.proofs.Common.{◌≡◌, take, AddsSome, AreGameItems}
use Rattle.pg_page.proofs.heading.write_all.Given as goal

-- the games so far were appended
abbrev pub invariant-loop-i : goal.invariant-loop-i
invariant-loop-i g l = record {
  items : AddsSome (AreGameItems (take l.i l.games)) (g.W.Sink.held l.fn.out) (g.W.Sink.held l.out);
  runs : g.W.Sink.has_failed l.out ≡ g.W.Sink.has_failed l.fn.out;
}
