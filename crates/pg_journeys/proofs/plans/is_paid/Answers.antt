use Rattle.pg_journeys.proofs.Common.{arith, ◌-◌}
use Rattle.pg_journeys.proofs.CostLemmas.{charged, paid_by}
use Rattle.pg_journeys.proofs.SideLemmas.{men_few}
use Rattle.pg_journeys.proofs.plans.is_paid.Goals as goal

pub pays-requires : goal.pays-requires
pays-requires c = omega (arith, c.costs_in.ensures.size, men_few c.args.measured.now.side.now)

pub returns-then-charge-measured : goal.returns-then-charge-measured
returns-then-charge-measured c = λ d side. charged d c.args.measured.now.side.now c.args.measured.now.is_quiet c.args.way c.args.measured.now.most (omega (arith, c.charge-charge.ensures.value, c.if-charge-measured.true))

pub returns-else-charge-measured : goal.returns-else-charge-measured
returns-else-charge-measured c = λ d side. paid_by d c.args.measured.now.side.now c.args.measured.now.is_quiet c.args.way c.args.measured.now.most (c.args.measured.now.most - c.charge-charge.result) c.costs_in.result c.pays.result
    (omega (arith, c.charge-charge.ensures.value, c.if-charge-measured.false)) (c.costs_in.ensures.costs d side) c.pays.ensures
