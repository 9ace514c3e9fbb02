use Rattle.pg_certificate.proofs.Common.{arith}
use Rattle.pg_certificate.proofs.WriteLemmas.{put_next}
use Rattle.pg_certificate.proofs.writer.RecordWriter.prices.Goals as goal

pub loop-way-preserved : goal.loop-way-preserved
loop-way-preserved g c = record {
  end = c.loop-way.invariant.end;
  runs = c.in_ok-numbers-2.ensures.refuses.1;
  put = put_next _ _ _ _ c.args.prices.now c.loop-way.way c.u.result.now c.v.result.now (omega (arith, c.loop-way-test.true, c.loop-way.invariant.end)) c.u.ensures c.v.ensures c.loop-way.invariant.put c.in_ok-numbers.ensures.bytes c.in_ok-numbers-2.ensures.bytes;
}
