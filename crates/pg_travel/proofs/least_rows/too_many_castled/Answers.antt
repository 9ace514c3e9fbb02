use Rattle.pg_travel.proofs.Common.{false, ap, sym, ◌∙◌, Rights, holds}
use Rattle.pg_travel.proofs.Within.{castled_by, castled_none}
use Rattle.pg_travel.proofs.least_rows.too_many_castled.Goals as goal

pub returns-then-holds : goal.returns-then-holds
returns-then-holds c = λ t. castled_by c.args.position.now c.args.rows.now c.args.color c.args.right c.args.plies false (ap (λ (r : Rights). holds r c.args.color c.args.right) (sym c.rights.ensures) ∙ sym c.holds.ensures ∙ c.if-holds.true) (c.too_many.ensures t c.args.position.now c.args.rows.now c.args.color (rw (c.board.ensures.value) at c.sure_to_cost-sure.ensures))

pub returns-else-holds : goal.returns-else-holds
returns-else-holds c = λ t. castled_none c.args.position.now c.args.rows.now c.args.color c.args.right c.args.plies (ap (λ (r : Rights). holds r c.args.color c.args.right) (sym c.rights.ensures) ∙ sym c.holds.ensures ∙ c.if-holds.false)
