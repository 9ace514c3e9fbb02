use Rattle.pg_assignments.proofs.Common.{sym, arith, nth, total-none, total-more}
use Rattle.pg_assignments.proofs.columns.sum_of.Goals as goal

pub loop-j-init : goal.loop-j-init
loop-j-init c = record { is = sym (total-none (nth c.args.row)); low = omega arith }

pub loop-j-preserved : goal.loop-j-preserved
loop-j-preserved c = record {
  is = omega (arith, c.loop-j.invariant.is, c.from-sum.ensures, total-more (nth c.args.row) c.loop-j.j);
  low = omega (arith, c.loop-j.invariant.low, c.from-sum.ensures, c.well_formed);
}
