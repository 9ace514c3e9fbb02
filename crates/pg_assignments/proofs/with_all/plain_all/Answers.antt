use Rattle.pg_assignments.proofs.Common.{◌+◌, refl, arith, ◌∙◌, length-set}
use Rattle.pg_assignments.proofs.ToldLemmas.{rows_next}
use Rattle.pg_assignments.proofs.with_all.plain_all.Goals as goal

pub loop-i-preserved : goal.loop-i-preserved
loop-i-preserved c = record {
  long = length-set c.loop-i.out c.loop-i.i c.plain_row.result ∙ c.loop-i.invariant.long;
  is = rows_next c.args.costs.now c.loop-i.out c.plain_row.result c.loop-i.i (c.loop-i.i + 1) refl (omega (arith, c.loop-i.invariant.long, c.loop-i-test.true, c.requires)) c.plain_row.ensures c.loop-i.invariant.is;
}
