use Rattle.pg_tolls.proofs.Common.{Some, sym, ap, ◌∙◌}
use Rattle.pg_tolls.proofs.Paying.{first_unpaid, second_unpaid, both_paid}
use Rattle.pg_tolls.proofs.excluding.is_paid_for.Goals as goal

pub returns-in-None : goal.returns-in-None
returns-in-None c = first_unpaid c.args.bound.now.white c.args.bound.now.black c.args.bound.now.diagram c.args.position.now c.args.left c.value_by.result c.in-None.is c.value_by.ensures

pub returns-in-None-value_by : goal.returns-in-None-value_by
returns-in-None-value_by c =
    second_unpaid c.args.bound.now.white c.args.bound.now.black c.args.bound.now.diagram c.args.position.now c.args.left c.value_by-in-Some.result c.in-None-value_by.is c.value_by-in-Some.ensures

pub returns-in-Some-value_by : goal.returns-in-Some-value_by
returns-in-Some-value_by c =
    both_paid c.args.bound.now.white c.args.bound.now.black c.args.bound.now.diagram c.args.position.now c.args.left c.value_by.result c.value_by-in-Some.result
    c.from-in-Some-value_by-2.result c.from-in-Some-value_by-3.result c.from.result c.from-in-Some-value_by.result
    (c.in-Some.is ∙ ap Some (sym c.from-in-Some-value_by-2.ensures)) (c.in-Some-value_by.is ∙ ap Some (sym c.from-in-Some-value_by-3.ensures))
    c.value_by.ensures c.value_by-in-Some.ensures (c.from.ensures ∙ c.share.ensures) (c.from-in-Some-value_by.ensures ∙ c.share-in-Some-value_by.ensures)
