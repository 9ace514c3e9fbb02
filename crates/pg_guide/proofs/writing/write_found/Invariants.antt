use Rattle.std.proofs.Common.{◌≡◌}
use Rattle.pg_certificate.specs.Pushing.{Grows}
use Rattle.pg_guide.proofs.writing.write_found.Given as goal

-- the lines so far were appended
abbrev pub invariant-loop-plies : goal.invariant-loop-plies
invariant-loop-plies g l = record {
  text : Grows (g.W.Sink.held l.fn.out) (g.W.Sink.held l.out);
  runs : g.W.Sink.has_failed l.out ≡ g.W.Sink.has_failed l.fn.out;
}
