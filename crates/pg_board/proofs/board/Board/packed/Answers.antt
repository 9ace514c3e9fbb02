-- The eight sets are sound, and are those that unpacking gives.
use Rattle.pg_board.proofs.Common.{sym, ◌∙◌, ap, subst, Quarters, unpacked, packed_sound, packed_shows, placement_of, IsSound, man_in}
use Rattle.pg_board.proofs.board.Board.packed.Goals as goal

pub invariant_of-result : goal.invariant_of-result
invariant_of-result c = subst (λ (v : Quarters). IsSound (unpacked v)) (sym c.quarters_of.ensures) (packed_sound c.sets.result.now c.sets.ensures.sound)

pub returns : goal.returns
returns c = ap (λ (v : Quarters). placement_of (man_in (unpacked v))) c.quarters_of.ensures ∙ packed_shows c.sets.result.now c.sets.ensures.sound ∙ c.sets.ensures.shown
