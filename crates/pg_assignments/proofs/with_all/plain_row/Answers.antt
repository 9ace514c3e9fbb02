use Rattle.pg_assignments.proofs.Common.{◌+◌, refl, arith, ◌∙◌, length-set}
use Rattle.pg_assignments.proofs.ToldLemmas.{row_next}
use Rattle.pg_assignments.proofs.with_all.plain_row.Goals as goal

pub loop-j-preserved : goal.loop-j-preserved
loop-j-preserved c = record {
  long = length-set c.loop-j.out c.loop-j.j c.number.result ∙ c.loop-j.invariant.long;
  is = row_next c.args.costs.now c.args.row c.loop-j.out c.loop-j.j (c.loop-j.j + 1) c.number.result refl (omega (arith, c.loop-j.invariant.long, c.loop-j-test.true, c.requires.size)) c.number.ensures c.loop-j.invariant.is;
}
