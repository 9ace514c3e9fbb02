use Rattle.pg_position.proofs.Common.{IsPawnAttacked, AttackedBy}
use Rattle.pg_position.proofs.state.State.is_pawn_attacked.Goals as goal

pub returns : goal.returns
unfolding IsPawnAttacked AttackedBy
returns c = (
  λ t. (let (r, l, st, p, free) = c.pawn_attacks.ensures.0 t in (r, l, st, (p, free))),
  λ (r, l, st, hit). c.pawn_attacks.ensures.1 (r, l, st, hit.0, hit.1),
)
