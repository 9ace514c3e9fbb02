use Rattle.pg_captures.proofs.Common.{◌≡◌, ap, ◌∙◌, other, plies_left, victims}
use Rattle.pg_captures.proofs.TakingTold.{off_like, mine_told, theirs_told}
use Rattle.pg_captures.proofs.captures.captures_hold_after.Goals as goal

pub returns-then-is_owed_wrongly : goal.returns-then-is_owed_wrongly
returns-then-is_owed_wrongly c =
    let side : c.other-other.result ≡ other c.args.position.now.side = c.other-other.ensures ∙ ap other c.side-mover.ensures.value in
    mine_told c.args.diagram.now c.args.position.now c.args.m.now c.args.left c.victims_after-here.result c.victims_of-own.result c.is_owed_wrongly.result
    (c.side-mover.ensures.position, c.victims_after-here.ensures.value, c.victims_of-own.ensures.value ∙ (λ i. victims (side i) (c.board.ensures.value i)))
    c.if-is_owed_wrongly.true
    (off_like c.is_owed_wrongly.result _ _ _ _ _ _ (λ i. c.victims_after-here.result) (c.victims_of.ensures.value ∙ (λ i. victims (c.side-mover.ensures.value i) (c.board-goal.ensures.value i))) (c.plies_left.ensures ∙ (λ i. plies_left (side i) (c.side-mover.ensures.value i) c.args.left)) c.is_owed_wrongly.ensures)

pub returns-else-is_owed_wrongly : goal.returns-else-is_owed_wrongly
returns-else-is_owed_wrongly c =
    let side : c.other-other.result ≡ other c.args.position.now.side = c.other-other.ensures ∙ ap other c.side-mover.ensures.value in
    theirs_told c.args.diagram.now c.args.position.now c.args.m.now c.args.left c.victims_after-here.result c.victims_of-own.result c.is_owed_wrongly.result c.is_owed_wrongly-else-is_owed_wrongly.result
    (c.side-mover.ensures.position, c.victims_after-here.ensures.value, c.victims_of-own.ensures.value ∙ (λ i. victims (side i) (c.board.ensures.value i)))
    c.if-is_owed_wrongly.false
    (off_like c.is_owed_wrongly.result _ _ _ _ _ _ (λ i. c.victims_after-here.result) (c.victims_of.ensures.value ∙ (λ i. victims (c.side-mover.ensures.value i) (c.board-goal.ensures.value i))) (c.plies_left.ensures ∙ (λ i. plies_left (side i) (c.side-mover.ensures.value i) c.args.left)) c.is_owed_wrongly.ensures)
    (off_like c.is_owed_wrongly-else-is_owed_wrongly.result _ _ _ _ _ _ (λ i. c.victims_of-own.result) (c.victims_of-else-is_owed_wrongly.ensures.value ∙ (λ i. victims (side i) (c.board-goal.ensures.value i))) (c.plies_left-else-is_owed_wrongly.ensures ∙ (λ i. plies_left (side i) (side i) c.args.left)) c.is_owed_wrongly-else-is_owed_wrongly.ensures)
