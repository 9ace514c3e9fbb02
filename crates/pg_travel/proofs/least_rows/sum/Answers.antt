use Rattle.pg_travel.proofs.Common.{◌≡◌, get_or, sym, ap, arith, ◌∙◌, total, total-none, total-more}
use Rattle.pg_travel.proofs.least_rows.sum.Goals as goal

pub loop-i-init : goal.loop-i-init
loop-i-init c = record { is = sym (total-none (λ i. get_or c.args.row i 0)); low = omega arith }

pub loop-i-preserved : goal.loop-i-preserved
loop-i-preserved c = record {
  is = omega (arith, c.loop-i.invariant.is, c.from-sum.ensures, total-more (λ i. get_or c.args.row i 0) c.loop-i.i);
  low = omega (arith, c.loop-i.invariant.low, c.from-sum.ensures);
}

pub returns : goal.returns
returns c = let end : c.loop-i.i ≡ 16 = omega (arith, c.loop-i-test.false, c.loop-i.auto.i-end) in record {
  value = c.loop-i.invariant.is ∙ ap (total (λ i. get_or c.args.row i 0)) end;
  low = omega (arith, c.loop-i.invariant.low, end);
}
