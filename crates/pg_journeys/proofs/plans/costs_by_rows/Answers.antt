use Rattle.pg_journeys.proofs.Common.{◌+◌, refl, arith, ◌∙◌, length-set}
use Rattle.pg_journeys.proofs.CostLemmas.{rows_next, costs_are}
use Rattle.pg_journeys.proofs.SideLemmas.{men_few}
use Rattle.pg_journeys.proofs.plans.costs_by_rows.Goals as goal

pub loop-i-preserved : goal.loop-i-preserved
loop-i-preserved c = record {
  long = length-set c.loop-i.rows c.loop-i.i c.row_in.result ∙ c.loop-i.invariant.long;
  is = rows_next c.args.measured.now.side.now c.args.measured.now.is_quiet c.args.way c.args.measured.now.most c.loop-i.rows c.row_in.result c.loop-i.i (c.loop-i.i + 1) refl (omega (arith, c.loop-i.invariant.long, c.loop-i-test.true, men_few c.args.measured.now.side.now)) c.row_in.ensures c.loop-i.invariant.is;
}

pub returns-clause-costs : goal.returns-clause-costs
returns-clause-costs c = λ d side. costs_are d c.args.measured.now.side.now c.args.way c.args.measured.now.is_quiet c.args.measured.now.most (record { size = c.args.measured.now.side.now.men.count; rows = c.loop-i.rows }) side c.args.measured.now.low
    (λ i l. c.loop-i.invariant.is i (omega (arith, c.loop-i-test.false, l)))
