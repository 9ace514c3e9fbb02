use Rattle.pg_position.proofs.Common.{set_of_union}
use Rattle.pg_position.proofs.clauses.ends.Goals as goal

pub returns : goal.returns
returns c = set_of_union c.bitor.result c.of_rank.result c.of_rank-2.result c.bitor.ensures.members c.of_rank.ensures c.of_rank-2.ensures
