use Rattle.std.proofs.Common.{arith, rules}
use Rattle.std.proofs.lemmas.List.{take_rest}
use Rattle.pg_certificate.proofs.Known.{Appends-next}
use Rattle.pg_streams.proofs.gathered.GatheredSink.push_each.Goals as goal

pub loop-at-preserved : goal.loop-at-preserved
loop-at-preserved g c = record {
  within = omega (arith, c.in_ok-at.ensures.some.1);
  written = Appends-next _ _ _ c.loop-at.at c.in_ok-at.field-0 c.args.bytes.now c.loop-at.invariant.written (rw take_rest at c.in_ok-at.ensures.bytes);
  same = search rules;
  runs = search rules;
}
