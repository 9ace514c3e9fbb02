use Rattle.pg_tolls.proofs.Common.{◌+◌, None, length, refl, ap, arith, ◌∙◌, length-set}
use Rattle.pg_tolls.proofs.Billing.{lines_next}
use Rattle.pg_tolls.proofs.bills.bill_of.Goals as goal

pub loop-i-preserved : goal.loop-i-preserved
loop-i-preserved c = record {
  long = ap length c.enter.ensures.leasts ∙ length-set c.loop-i.bill.leasts c.loop-i.i c.line_of-line.result.least ∙ c.loop-i.invariant.long;
  rows = ap length c.enter.ensures.rows ∙ length-set c.loop-i.bill.rows c.loop-i.i c.line_of-line.result.costs ∙ c.loop-i.invariant.rows;
  size = c.enter.ensures.size ∙ c.loop-i.invariant.size;
  lines = λ p is.
      lines_next c.loop-i.bill c.enter.new.self c.loop-i.i c.line_of-line.result.least c.line_of-line.result.costs c.enter.ensures.leasts c.enter.ensures.rows
      c.args.half.now p c.args.party.now None (c.loop-i.i + 1) refl (omega (arith, c.loop-i.invariant.long, c.loop-i-test.true, c.requires))
      (omega (arith, c.loop-i.invariant.rows, c.loop-i-test.true, c.requires)) (c.line_of-line.ensures p is) (c.loop-i.invariant.lines p is);
}
