use Rattle.pg_position.proofs.Common.{sym, ◌∙◌, same_from_decides, same_from_alike, alike_from_same, state_eq_decides}
use Rattle.pg_position.proofs.position.PositionPartialEq.eq.Goals as goal

pub returns-clause-same : goal.returns-clause-same
returns-clause-same c = (
  λ t. sym c.self.view_is ∙ same_from_alike _ _ (c.same_state.ensures.0 t) ∙ c.other.view_is,
  λ e. c.same_state.ensures.1 (alike_from_same _ _ (c.self.view_is ∙ e ∙ sym c.other.view_is)),
)

pub returns-clause-value : goal.returns-clause-value
returns-clause-value c = same_from_decides _ _ (returns-clause-same c) (state_eq_decides _ _)
