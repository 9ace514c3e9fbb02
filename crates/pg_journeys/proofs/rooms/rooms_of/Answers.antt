use Rattle.pg_journeys.proofs.Common.{arith}
use Rattle.pg_journeys.proofs.CostLemmas.{charged, none_paid, some_paid}
use Rattle.pg_journeys.proofs.OneMeasure.{costs_too}
use Rattle.pg_journeys.proofs.RoomLemmas.{rooms_are}
use Rattle.pg_journeys.proofs.SideLemmas.{men_few}
use Rattle.pg_journeys.proofs.rooms.rooms_of.Goals as goal

pub least_totals-requires : goal.least_totals-requires
least_totals-requires c = omega (arith, c.costs_in-costs.ensures.size, men_few c.args.measured.now.side.now)

pub rows-requires-clause-size : goal.rows-requires-clause-size
rows-requires-clause-size c = omega (arith, c.costs_in-costs.ensures.size, men_few c.args.measured.now.side.now)

pub rows-requires-clause-paid : goal.rows-requires-clause-paid
rows-requires-clause-paid c = omega (arith, c.from-paid.ensures, c.args.measured.now.low)

pub returns-then-charge-measured-clause-none : goal.returns-then-charge-measured-clause-none
returns-then-charge-measured-clause-none c = λ d side g paid. absurd (let z = (charged d c.args.measured.now.side.now c.args.measured.now.is_quiet c.args.way c.args.measured.now.most (omega (arith, c.charge-charge.ensures.value, c.if-charge-measured.true))).1 (g, paid) in cc)

pub returns-in-None-clause-none : goal.returns-in-None-clause-none
returns-in-None-clause-none c = λ d side g paid. none_paid d c.args.measured.now.side.now c.args.measured.now.is_quiet c.args.way c.args.measured.now.most c.from-paid.result c.costs_in-costs.result
    (omega (arith, c.from-paid.ensures, c.charge-charge.ensures.value, c.if-charge-measured.false)) (c.costs_in-costs.ensures.costs d side) c.in-None.ensures.none (g, paid)

pub returns-in-Some-clause-some : goal.returns-in-Some-clause-some
returns-in-Some-clause-some c = λ d quiet side same. (
  rooms_are d c.args.measured.now.side.now quiet c.args.way c.args.measured.now.most c.from-paid.result c.costs_in-costs.result c.in-Some.totals.pairs c.rows.result side
      (omega (arith, c.from-paid.ensures, c.charge-charge.ensures.value, c.if-charge-measured.false)) c.costs_in-costs.ensures.size c.args.measured.now.low
      (costs_too d c.args.measured.now.side.now c.args.way c.args.measured.now.is_quiet quiet c.args.measured.now.most c.costs_in-costs.result side c.costs_in-costs.ensures.size same (c.costs_in-costs.ensures.costs d side)) c.in-Some.ensures.some.pairs c.rows.ensures,
  some_paid d c.args.measured.now.side.now quiet c.args.way c.args.measured.now.most c.from-paid.result c.costs_in-costs.result c.in-Some.totals
      (omega (arith, c.from-paid.ensures, c.charge-charge.ensures.value, c.if-charge-measured.false)) (costs_too d c.args.measured.now.side.now c.args.way c.args.measured.now.is_quiet quiet c.args.measured.now.most c.costs_in-costs.result side c.costs_in-costs.ensures.size same (c.costs_in-costs.ensures.costs d side)) c.in-Some.ensures.some,
)
