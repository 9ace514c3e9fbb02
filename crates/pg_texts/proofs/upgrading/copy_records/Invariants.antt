use Rattle.pg_texts.proofs.Common.{◌-◌, ◌≤◌, length, to_come, written, Copies, IsCopying}
use Rattle.pg_texts.proofs.upgrading.copy_records.Given as goal

-- the records so far were copied, and neither side has refused
abbrev pub invariant-records : goal.invariant-records
invariant-records g l = record {
  copied : Copies l.count (to_come l.fn.reader (g.R.Source.left l.fn.source)) (to_come l.reader (g.R.Source.left l.source)) (written (g.W.Sink.held l.fn.out) l.fn.writer) (written (g.W.Sink.held l.out) l.writer);
  few : l.count ≤ l.max_records;
  copying : IsCopying l.reader l.writer;
  held : length l.reader.held ≤ 4096;
}

abbrev pub decreases-records : goal.decreases-records
decreases-records g l = l.max_records - l.count
