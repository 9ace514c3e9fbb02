use Rattle.pg_travel.proofs.Common.{ap, sym, arith, ◌∙◌, Rights, holds}
use Rattle.pg_travel.proofs.Within.{castled_by}
use Rattle.pg_travel.proofs.CastledRows.{castled_over, free_is_below}
use Rattle.pg_travel.proofs.least_rows.pays_castled.Goals as goal

pub returns-then-cost_by-plies : goal.returns-then-cost_by-plies
returns-then-cost_by-plies c = castled_over c.args.position.now c.args.rows.now c.args.color c.args.right c.args.free c.castled.result c.args.plies c.cost_by.result c.side.ensures.position (ap (λ (r : Rights). holds r c.args.color c.args.right) (sym c.rights.ensures) ∙ sym c.holds.ensures ∙ c.if-holds.true) (free_is_below c.args.rows.now c.args.position.now.board c.args.color c.args.free c.requires.free) c.castled.ensures c.requires.few c.cost_by.ensures (omega (arith, c.if-cost_by-plies.true))

pub returns-else-cost_by-plies : goal.returns-else-cost_by-plies
returns-else-cost_by-plies c = castled_by c.args.position.now c.args.rows.now c.args.color c.args.right c.args.plies c.pays_exactly.result (ap (λ (r : Rights). holds r c.args.color c.args.right) (sym c.rights.ensures) ∙ sym c.holds.ensures ∙ c.if-holds.true) c.pays_exactly.ensures
