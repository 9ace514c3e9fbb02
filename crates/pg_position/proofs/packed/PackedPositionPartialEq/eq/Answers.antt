use Rattle.pg_position.proofs.Common.{same_from_decides, same_from_alike, alike_from_same, state_eq_decides}
use Rattle.pg_position.proofs.packed.PackedPositionPartialEq.eq.Goals as goal

pub returns-clause-same : goal.returns-clause-same
returns-clause-same c = (
  λ t. same_from_alike _ _ (c.are_alike.ensures.0 t),
  λ e. c.are_alike.ensures.1 (alike_from_same _ _ e),
)

pub returns-clause-value : goal.returns-clause-value
returns-clause-value c = same_from_decides _ _ (returns-clause-same c) (state_eq_decides _ _)
