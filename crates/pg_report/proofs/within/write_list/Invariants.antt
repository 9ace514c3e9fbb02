use Rattle.pg_report.proofs.Common.{◌≡◌, Appends, has, count_below, list_text}
use Rattle.pg_report.proofs.within.write_list.Given as goal

-- the names of the squares so far were appended, and these are counted
abbrev pub invariant-loop-index : goal.invariant-loop-index
invariant-loop-index g l = record {
  text : Appends (g.W.Sink.held l.fn.out) (g.W.Sink.held l.out) (list_text l.how (has l.set) l.index);
  runs : g.W.Sink.has_failed l.out ≡ g.W.Sink.has_failed l.fn.out;
  counted : l.before ≡ count_below (has l.set) l.index;
}
