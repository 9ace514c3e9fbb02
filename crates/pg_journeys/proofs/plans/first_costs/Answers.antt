use Rattle.pg_journeys.proofs.Common.{◌+◌, None, refl, subst, arith, ◌∙◌, length-set, IsCostRow, Walker}
use Rattle.pg_journeys.proofs.CostLemmas.{rows_next}
use Rattle.pg_journeys.proofs.SideLemmas.{men_few}
use Rattle.pg_journeys.proofs.plans.first_costs.Goals as goal

pub loop-i-preserved : goal.loop-i-preserved
loop-i-preserved c = record {
  long = length-set c.loop-i.rows c.loop-i.i c.row.result ∙ c.loop-i.invariant.long;
  is = rows_next c.args.side.now c.args.is_quiet None c.args.most c.loop-i.rows c.row.result c.loop-i.i (c.loop-i.i + 1) refl (omega (arith, c.loop-i.invariant.long, c.loop-i-test.true, men_few c.args.side.now))
      (subst (λ (m : Walker). IsCostRow c.args.side.now c.args.most m c.row.result c.args.side.now.men.count) c.man_of-man.ensures c.row.ensures) c.loop-i.invariant.is;
}

pub returns-clause-rows : goal.returns-clause-rows
returns-clause-rows c = λ i l. c.loop-i.invariant.is i (omega (arith, c.loop-i-test.false, l))
