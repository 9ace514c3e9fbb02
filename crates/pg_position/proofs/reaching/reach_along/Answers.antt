use Rattle.pg_position.proofs.Common.{sym, ◌∙◌}
use Rattle.pg_position.proofs.ReachLemmas.{reach_up, reach_down}
use Rattle.pg_position.proofs.reaching.reach_along.Goals as goal

pub returns-then-ascends : goal.returns-then-ascends
returns-then-ascends c = reach_up _ _ _ _ _ _ _ _ c.ray-line.ensures c.occupied.ensures c.bitand-men.ensures.members c.bitand.ensures.members (sym c.ascends.ensures ∙ c.if-ascends.true) c.up_to_first.ensures

pub returns-else-ascends : goal.returns-else-ascends
returns-else-ascends c = reach_down _ _ _ _ _ _ _ _ c.ray-line.ensures c.occupied.ensures c.bitand-men.ensures.members c.bitand-else-ascends.ensures.members (sym c.ascends.ensures ∙ c.if-ascends.false) c.from_last.ensures
