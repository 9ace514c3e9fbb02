use Rattle.pg_fen.proofs.Common.{arith, min, digits_value}
use Rattle.pg_fen.proofs.Decimals.{digit_at, capped_step}
use Rattle.pg_fen.proofs.numbers.number_up_to.Goals as goal

pub loop-d-preserved : goal.loop-d-preserved
loop-d-preserved c =
    let bs = c.args.digits.now in
    let i = c.loop-d.d-index in
    let at = digit_at bs i c.loop-d-test.true c.loop-d.invariant.digits in
    let e = capped_step c.args.most c.loop-d.n (min c.args.most (digits_value 10 bs)) bs i c.loop-d-test.true at.0 c.loop-d.invariant.same in
    record {
      small = omega arith;
      digits = at.1;
      same = rw (c.min-n.ensures, c.from.ensures) e;
    }
