use Rattle.std.proofs.Common.{◌≡◌, ◌-◌, ◌≤◌, ◌<◌, length, take, false}
use Rattle.std.specs.Io.KnownBytes.{Appends, append_known}
use Rattle.pg_streams.proofs.gathered.GatheredSink.push_each.Given as goal

-- the bytes so far were appended, to a sink that runs as it did
abbrev pub invariant-loop-at : goal.invariant-loop-at
invariant-loop-at g l = record {
  within : l.at ≤ length l.bytes;
  written : Appends (append_known (g.W.Sink.held l.fn.self.inner) l.fn.self.bytes.items) (append_known (g.W.Sink.held l.self.inner) l.self.bytes.items) (take l.at l.bytes);
  same : g.W.Sink.has_failed l.self.inner ≡ g.W.Sink.has_failed l.fn.self.inner;
  runs : 0 < l.at → g.W.Sink.has_failed l.fn.self.inner ≡ false;
}

abbrev pub decreases-loop-at : goal.decreases-loop-at
decreases-loop-at g l = length l.bytes - l.at
