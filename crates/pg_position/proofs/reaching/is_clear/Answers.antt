use Rattle.pg_position.proofs.ReachLemmas.{clear_else}
use Rattle.pg_position.proofs.reaching.is_clear.Goals as goal

pub returns-else-reaches : goal.returns-else-reaches
returns-else-reaches c = clear_else _ _ _ _ _ _ _ c.empty.ensures c.if-reaches.false (rw c.new-queen.ensures at c.reaches.ensures) (rw c.new-queen.ensures at c.reaches-else-reaches.ensures)
