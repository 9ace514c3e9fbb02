use Rattle.pg_position.proofs.Common.{refl, subst, Color, Attacks}
use Rattle.pg_position.proofs.SiftedKings.{fewer, king_hit, none_hit}
use Rattle.pg_position.proofs.boards.in_check.Goals as goal

pub returns-then-attacked : goal.returns-then-attacked
returns-then-attacked c = (
  λ t. king_hit c.args.board.now c.args.color c.loop-king.kings c.in-Some.king c.loop-king.invariant c.in-Some.ensures.taken (subst (λ (x : Color). Attacks c.args.board.now x c.in-Some.king) c.other.ensures (c.if-attacked.ensures.0 refl)),
  λ h. refl,
)

pub loop-king-smaller : goal.loop-king-smaller
loop-king-smaller c = fewer c.loop-king.kings _ c.in-Some.king c.in-Some.ensures.taken c.in-Some.ensures.rest

pub returns : goal.returns
returns c = (λ t. cc, λ h. absurd (none_hit c.args.board.now c.args.color c.loop-king.kings c.loop-king.invariant c.in_default.ensures.taken h))
