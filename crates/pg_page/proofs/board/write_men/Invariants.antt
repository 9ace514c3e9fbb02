use Rattle.pg_page.proofs.Common.{◌≡◌, Appends, men_text}
use Rattle.pg_page.proofs.board.write_men.Given as goal

-- the men on the squares so far were appended
abbrev pub invariant-loop-index : goal.invariant-loop-index
invariant-loop-index g l = record {
  text : Appends (g.W.Sink.held l.fn.out) (g.W.Sink.held l.out) (men_text l.board l.index);
  runs : g.W.Sink.has_failed l.out ≡ g.W.Sink.has_failed l.fn.out;
}
