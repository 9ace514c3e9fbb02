use Rattle.pg_certificate.proofs.Common.{◌≡◌, ◌<◌, take, false, Appends}
use Rattle.pg_certificate.proofs.source.Sink.push_each.Given as goal

-- the bytes so far were appended, to a sink that runs as it did
abbrev pub invariant-loop-byte : goal.invariant-loop-byte
invariant-loop-byte g l = record {
  written : Appends (g.Self.Sink.held l.fn.self) (g.Self.Sink.held l.self) (take l.byte-index l.bytes);
  same : g.Self.Sink.has_failed l.self ≡ g.Self.Sink.has_failed l.fn.self;
  runs : 0 < l.byte-index → g.Self.Sink.has_failed l.fn.self ≡ false;
}
