-- Four sets show one board, and a board is shown by four sets alone.
use Rattle.pg_board.proofs.Common.{sym, ◌∙◌, ap, same_from_decides, Quarters, placement_of, placement_eq_decides, quarters_of, unpacked, quarters_back, man_in, sets_of}
use Rattle.pg_board.proofs.packed.PackedBoardPartialEq.eq.Goals as goal

pub returns-clause-same : goal.returns-clause-same
returns-clause-same c = (
  λ t. sym c.self.view_is ∙ ap (λ (f : Quarters). placement_of (man_in (unpacked f))) (c.same_quarters.ensures.0 t) ∙ c.other.view_is,
  λ e. c.same_quarters.ensures.1 (sym (quarters_back _ c.self.invariant) ∙ ap (λ p. quarters_of (sets_of p)) (c.self.view_is ∙ e ∙ sym c.other.view_is) ∙ quarters_back _ c.other.invariant),
)

pub returns-clause-value : goal.returns-clause-value
returns-clause-value c = same_from_decides _ _ (returns-clause-same c) (placement_eq_decides _ _)
