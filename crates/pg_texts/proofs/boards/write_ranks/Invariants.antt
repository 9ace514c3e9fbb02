use Rattle.pg_texts.proofs.Common.{◌≡◌, Appends, upper_lines}
use Rattle.pg_texts.proofs.boards.write_ranks.Given as goal

-- the ranks so far were appended
abbrev pub invariant-loop-line : goal.invariant-loop-line
invariant-loop-line g l = record {
  text : Appends (g.W.Sink.held l.fn.out) (g.W.Sink.held l.out) (upper_lines l.board l.line);
  runs : g.W.Sink.has_failed l.out ≡ g.W.Sink.has_failed l.fn.out;
}
