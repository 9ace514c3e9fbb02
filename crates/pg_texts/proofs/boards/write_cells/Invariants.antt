use Rattle.pg_texts.proofs.Common.{◌≡◌, Appends, squares_text}
use Rattle.pg_texts.proofs.boards.write_cells.Given as goal

-- the squares so far were appended
abbrev pub invariant-loop-file : goal.invariant-loop-file
invariant-loop-file g l = record {
  text : Appends (g.W.Sink.held l.fn.out) (g.W.Sink.held l.out) (squares_text l.board l.rank l.file);
  runs : g.W.Sink.has_failed l.out ≡ g.W.Sink.has_failed l.fn.out;
}
