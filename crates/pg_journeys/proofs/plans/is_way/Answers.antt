use Rattle.pg_journeys.proofs.Common.{ap, ◌∙◌, holds}
use Rattle.pg_position.specs.declared.rights.Rights.{Rights}
use Rattle.pg_journeys.proofs.SpanLemmas.{way_open}
use Rattle.pg_journeys.proofs.plans.is_way.Goals as goal

pub returns-then-holds : goal.returns-then-holds
returns-then-holds c =
    way_open c.args.facts.now c.args.position.now c.args.color c.in-Some.wing c.args.way c.holds.result c.meets.result c.span.result c.in-Some.is
    (c.holds.ensures ∙ ap (λ (r : Rights). holds r c.args.color c.in-Some.wing) c.rights.ensures) c.if-holds.true c.span.ensures c.meets.ensures
