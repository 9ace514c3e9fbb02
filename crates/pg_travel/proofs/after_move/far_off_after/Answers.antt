use Rattle.pg_travel.proofs.Common.{subst, ◌∙◌, Placement, IsMoved, NonePays}
use Rattle.pg_travel.proofs.AfterMove.{told_after}
use Rattle.pg_travel.proofs.after_move.far_off_after.Goals as goal

pub returns : goal.returns
returns c = λ t q legal. told_after c.args.position.now q c.args.m.now c.args.diagram.now c.side-color.result c.other.result c.args.left c.from-plies.result c.side-color.ensures.value c.other.ensures (c.from-plies.ensures ∙ c.plies_left.ensures) c.side-color.ensures.position legal (c.is_told.ensures c.if-not-is_told.false).0 (c.is_told.ensures c.if-not-is_told.false).1 (subst (λ (d : Placement). IsMoved c.args.position.now q c.side-color.result c.args.m.now → NonePays q d c.side-color.result c.from-plies.result) c.board.ensures.value (c.too_many_to_come.ensures t q))
