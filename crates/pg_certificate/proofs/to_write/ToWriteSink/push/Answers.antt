use Rattle.pg_certificate.proofs.Common.{arith, take_rest}
use Rattle.pg_certificate.proofs.Known.{Appends-next}
use Rattle.pg_certificate.proofs.to_write.ToWriteSink.push.Goals as goal

pub loop-at-preserved : goal.loop-at-preserved
loop-at-preserved g c = record {
  within = omega (arith, c.in-Ok.ensures.bound);
  runs = c.loop-at.invariant.runs;
  written = Appends-next _ _ _ c.loop-at.at c.in-Ok.count c.args.bytes.now c.loop-at.invariant.written (rw take_rest at c.in-Ok.ensures.bytes);
}
