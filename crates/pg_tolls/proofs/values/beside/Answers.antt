use Rattle.pg_tolls.proofs.Common.{◌+◌, Some, sym, ap, arith, ◌∙◌, IsCostBy}
use Rattle.pg_tolls.proofs.LeastLemmas.{beside_lesser, beside_none, beside_reached}
use Rattle.pg_tolls.proofs.Billing.{above_leasts, none_by_bill, least_by_bill}
use Rattle.pg_tolls.proofs.values.beside.Goals as goal

pub returns-then-is_at_most : goal.returns-then-is_at_most
returns-then-is_at_most c = λ d p m party marks bill bound.
    beside_reached (IsCostBy c.args.half.now d p c.args.way) c.args.found c.max.result (c.is_at_most.ensures c.if-is_at_most.true)
    (λ v h. omega (arith, c.max.ensures, bound v h, above_leasts c.args.half.now d p m c.args.way c.args.bill.now party marks bill c.base-base.result c.base-base.ensures.value v h))

pub returns-in-None : goal.returns-in-None
returns-in-None c = λ d p m party marks bill bound.
    beside_none (IsCostBy c.args.half.now d p c.args.way) c.args.found
    (none_by_bill c.args.half.now d p m c.args.way c.args.bill.now party marks bill c.base-base.result c.base-base.ensures.value c.least_total.result c.in-None.is c.least_total.ensures)

pub returns-in-Some : goal.returns-in-Some
returns-in-Some c = λ d p m party marks bill bound.
    beside_lesser (IsCostBy c.args.half.now d p c.args.way) c.args.found (Some (c.base-base.result + c.from.result)) c.lesser.result c.lesser.ensures
    (least_by_bill c.args.half.now d p m c.args.way c.args.bill.now party marks bill c.base-base.result c.base-base.ensures.value c.least_total.result c.from.result
    (c.in-Some.is ∙ ap Some (sym c.from.ensures)) c.least_total.ensures)
