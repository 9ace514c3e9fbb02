use Rattle.pg_tolls.proofs.Common.{get_or, sym, arith, total-none, total-more}
use Rattle.pg_tolls.proofs.values.sum.Goals as goal

pub loop-i-init : goal.loop-i-init
loop-i-init c = record { is = sym (total-none (λ i. get_or c.args.row.now i 0)); low = omega arith }

pub loop-i-preserved : goal.loop-i-preserved
loop-i-preserved c = record {
  is = omega (arith, c.loop-i.invariant.is, c.from-sum.ensures, total-more (λ i. get_or c.args.row.now i 0) c.loop-i.i);
  low = omega (arith, c.loop-i.invariant.low, c.from-sum.ensures, c.type_inv.row);
}
