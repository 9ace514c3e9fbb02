use Rattle.pg_travel.proofs.Common.{ap, sym, ◌∙◌, Rights, holds}
use Rattle.pg_travel.proofs.Within.{castled_by, castled_none}
use Rattle.pg_travel.proofs.needs.pays_castled.Goals as goal

pub returns-then-holds : goal.returns-then-holds
returns-then-holds c = castled_by c.args.position.now c.args.diagram.now c.args.color c.args.right c.args.plies c.pays.result (ap (λ (r : Rights). holds r c.args.color c.args.right) (sym c.rights.ensures) ∙ sym c.holds.ensures ∙ c.if-holds.true) c.pays.ensures

pub returns-else-holds : goal.returns-else-holds
returns-else-holds c = castled_none c.args.position.now c.args.diagram.now c.args.color c.args.right c.args.plies (ap (λ (r : Rights). holds r c.args.color c.args.right) (sym c.rights.ensures) ∙ sym c.holds.ensures ∙ c.if-holds.false)
