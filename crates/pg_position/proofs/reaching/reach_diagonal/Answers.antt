use Rattle.pg_position.proofs.Common.{set_of_union}
use Rattle.pg_position.proofs.reaching.reach_diagonal.Goals as goal

pub returns : goal.returns
returns c = set_of_union _ _ _ c.bitor-3.ensures.members
    (set_of_union _ _ _ c.bitor-2.ensures.members (set_of_union _ _ _ c.bitor.ensures.members c.reach_along.ensures c.reach_along-2.ensures) c.reach_along-3.ensures)
    c.reach_along-4.ensures
