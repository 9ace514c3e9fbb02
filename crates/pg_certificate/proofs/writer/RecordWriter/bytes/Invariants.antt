use Rattle.pg_certificate.proofs.Common.{◌≡◌, ◌<◌, take, true, false, Appends, written}
use Rattle.pg_certificate.proofs.writer.RecordWriter.bytes.Given as goal

abbrev pub invariant-loop-byte : goal.invariant-loop-byte
invariant-loop-byte g l = record {
  kept : l.self.failed ≡ l.fn.self.failed;
  runs : 0 < l.byte-index → l.fn.self.failed ≡ false;
  put : Appends (written (g.W.Sink.held l.fn.sink) l.fn.self) (written (g.W.Sink.held l.sink) l.self) (take l.byte-index l.bytes);
  untouched : l.fn.self.failed ≡ true → l.sink ≡ l.fn.sink;
}
