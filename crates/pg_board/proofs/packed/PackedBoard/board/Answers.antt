-- The same man stands on each square.
use Rattle.pg_board.proofs.Common.{sym, ◌∙◌, ap, Sets, placement_of, get-placement_of, same_placement, man_in}
use Rattle.pg_board.proofs.packed.PackedBoard.board.Goals as goal

pub returns : goal.returns
returns c =
    same_placement c.of_sets.result (placement_of (man_in c.unpacked.result)) (λ q low. c.of_sets.ensures q low ∙ sym (get-placement_of (man_in c.unpacked.result) q low))
    ∙ ap (λ (s : Sets). placement_of (man_in s)) c.unpacked.ensures ∙ c.self.view_is
