use Rattle.pg_travel.proofs.Common.{set_of_union}
use Rattle.pg_travel.proofs.least_rows.homes.Goals as goal

pub returns : goal.returns
returns c = set_of_union c.bitor-2.result c.single.result c.bitor.result c.bitor-2.ensures.members (rw c.king_home.ensures at c.single.ensures)
    (set_of_union c.bitor.result c.single-2.result c.single-3.result c.bitor.ensures.members (rw c.rook_home.ensures at c.single-2.ensures) (rw c.rook_home-2.ensures at c.single-3.ensures))
