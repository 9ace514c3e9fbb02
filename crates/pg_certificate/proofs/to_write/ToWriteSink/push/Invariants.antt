use Rattle.pg_certificate.proofs.Common.{◌≡◌, ◌-◌, ◌≤◌, length, take, false, Appends}
use Rattle.pg_certificate.proofs.to_write.ToWriteSink.push.Given as goal

abbrev pub invariant-loop-at : goal.invariant-loop-at
invariant-loop-at g l = record {
  within : l.at ≤ length l.bytes;
  runs : l.self.failed ≡ false;
  written : Appends (g.W.Write.contents l.initial.self.inner) (g.W.Write.contents l.self.inner) (take l.at l.bytes);
}

abbrev pub decreases-loop-at : goal.decreases-loop-at
decreases-loop-at g l = length l.bytes - l.at
