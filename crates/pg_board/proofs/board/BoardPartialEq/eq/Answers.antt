use Rattle.pg_board.proofs.Common.{same_from_decides, placement_eq_decides}
use Rattle.pg_board.proofs.BoardLemmas.{same_from_sets, sets_from_same}
use Rattle.pg_board.proofs.board.BoardPartialEq.eq.Goals as goal

pub returns-clause-same : goal.returns-clause-same
returns-clause-same c = (λ t. same_from_sets _ _ _ _ c.self.view_is c.other.view_is (c.same_sets.ensures.0 t), λ e. c.same_sets.ensures.1 (sets_from_same _ _ _ _ c.self.view_is c.other.view_is c.self.invariant c.other.invariant e))

pub returns-clause-value : goal.returns-clause-value
returns-clause-value c = same_from_decides _ _ (returns-clause-same c) (placement_eq_decides _ _)
