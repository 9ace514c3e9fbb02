use Rattle.pg_travel.proofs.Common.{ap, sym, ◌∙◌, Rights, holds}
use Rattle.pg_travel.proofs.Within.{held_beside, none_beside}
use Rattle.pg_travel.proofs.needs.castled_value.Goals as goal

pub returns-then-holds : goal.returns-then-holds
returns-then-holds c = held_beside c.args.position.now c.args.diagram.now c.args.color c.args.wing c.args.best c.total_within.result c.most_of-most.result c.most_of-most.ensures (ap (λ (r : Rights). holds r c.args.color c.args.wing) (sym c.rights.ensures) ∙ sym c.holds.ensures ∙ c.if-holds.true)
    (rw (c.board.ensures.value) at (rw (c.board-then-holds.ensures.value) at c.total_within.ensures))

pub returns-else-holds : goal.returns-else-holds
returns-else-holds c = none_beside c.args.position.now c.args.diagram.now c.args.color c.args.wing c.args.best (ap (λ (r : Rights). holds r c.args.color c.args.wing) (sym c.rights.ensures) ∙ sym c.holds.ensures ∙ c.if-holds.false)
