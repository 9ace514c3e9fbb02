use Rattle.pg_assignments.proofs.Common.{sym, arith, nth, total-none, total-more}
use Rattle.pg_assignments.proofs.tested.sum.Goals as goal

pub loop-i-init : goal.loop-i-init
loop-i-init c = record { is = sym (total-none (nth c.args.row.now)); low = omega arith }

pub loop-i-preserved : goal.loop-i-preserved
loop-i-preserved c = record {
  is = omega (arith, c.loop-i.invariant.is, c.from-sum.ensures, total-more (nth c.args.row.now) c.loop-i.i);
  low = omega (arith, c.loop-i.invariant.low, c.from-sum.ensures, c.type_inv.row);
}
