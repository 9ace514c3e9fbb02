use Rattle.pg_certificate.proofs.Common.{◌≡◌, ℕ, get_or, ◌+◌, ◌<◌, ◌≤◌, length, take, true, false, IfSome, Consumes, to_come}
use Rattle.pg_certificate.proofs.reader.RecordReader.exact.Given as goal

abbrev pub invariant-loop-i : goal.invariant-loop-i
invariant-loop-i g l = record {
  kept : l.self.failed ≡ l.fn.self.failed;
  runs : 0 < l.i → l.fn.self.failed ≡ false;
  taken : Consumes (to_come l.fn.self (g.S.Source.left l.fn.source)) (to_come l.self (g.S.Source.left l.source)) (take l.i l.out);
  fits : (k : ℕ) → k < l.i → get_or l.out k 0 < 256;
  pulled : 0 < l.i → IfSome (to_come l.fn.self (g.S.Source.left l.fn.source)) (λ bytes. IfSome (g.S.Source.left l.source) (λ rest. length bytes ≤ length rest + (4096 + l.i)));
  few : 0 < l.i → length l.self.held ≤ 4096;
  version : l.self.version ≡ l.fn.self.version;
  source_runs : g.S.Source.has_failed l.fn.source ≡ false → g.S.Source.has_failed l.source ≡ false;
  untouched : l.fn.self.failed ≡ true → l.source ≡ l.fn.source;
}
