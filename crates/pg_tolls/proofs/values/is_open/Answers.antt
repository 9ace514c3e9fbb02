use Rattle.pg_tolls.proofs.Common.{Some, refl, ap, ◌∙◌, holds}
use Rattle.pg_position.specs.declared.rights.Rights.{Rights}
use Rattle.pg_tolls.proofs.Openings.{open_by, closed_by}
use Rattle.pg_tolls.proofs.values.is_open.Goals as goal

pub returns-then-holds : goal.returns-then-holds
returns-then-holds c =
    open_by c.args.half.now c.args.position.now c.args.wing c.span.result c.sub.result c.span.ensures c.sub.ensures.members (Some c.args.wing) c.holds.result c.is_empty.result refl
    (c.holds.ensures ∙ ap (λ (r : Rights). holds r c.args.half.now.color c.args.wing) c.rights.ensures) c.if-holds.true c.is_empty.ensures.none

pub returns-else-holds : goal.returns-else-holds
returns-else-holds c =
    closed_by c.args.half.now c.args.position.now c.args.wing (Some c.args.wing) c.holds.result refl
    (c.holds.ensures ∙ ap (λ (r : Rights). holds r c.args.half.now.color c.args.wing) c.rights.ensures) c.if-holds.false
