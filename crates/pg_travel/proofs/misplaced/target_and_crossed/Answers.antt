use Rattle.pg_travel.proofs.Common.{set_of_union}
use Rattle.pg_travel.proofs.misplaced.target_and_crossed.Goals as goal

pub returns : goal.returns
returns c = set_of_union c.bitor.result c.single.result c.single-2.result c.bitor.ensures.members
    (rw c.king_target.ensures at c.single.ensures) (rw c.king_crossed.ensures at c.single-2.ensures)
