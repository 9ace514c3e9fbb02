use Rattle.pg_certificate.proofs.Common.{◌≡◌, length, false, Appends, written}
use Rattle.pg_certificate.proofs.WriteLemmas.{begun}
use Rattle.pg_certificate.proofs.writer.RecordWriter.prices.Given as goal

abbrev pub invariant-loop-way : goal.invariant-loop-way
invariant-loop-way g l = record {
  end : l.way-end ≡ length l.prices;
  runs : l.self.failed ≡ false;
  put : Appends (written (g.W.Sink.held l.fn.sink) l.fn.self) (written (g.W.Sink.held l.sink) l.self) (begun l.prices l.way);
}
