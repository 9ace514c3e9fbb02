use Rattle.pg_checker.proofs.Common.{refl, ap, ◌∙◌, State}
use Rattle.pg_checker.proofs.Leading.{unlike_last, not_again}
use Rattle.pg_checker.proofs.nearness.plays_to.Goals as goal

pub returns-then-is_last : goal.returns-then-is_last
returns-then-is_last c = not_again c.args.diagram.now c.args.position.now c.args.last.now c.args.m.now c.is_last.result c.is_last.ensures c.if-is_last.true

pub returns-in-Ok : goal.returns-in-Ok
returns-in-Ok c = (
  λ t. ((c.in-Ok.next, (c.in-Ok.ensures.ok c.in-Ok.next).0 refl, c.matches.ensures.0 t), unlike_last c.args.last.now c.args.m.now c.is_last.result c.is_last.ensures c.if-is_last.false),
  λ ((q, legal, same), _). c.matches.ensures.1 (ap (λ (v : State). v.board) ((c.in-Ok.ensures.ok q).1 legal) ∙ same),
)
