use Rattle.pg_moves.proofs.RestLemmas.{past_set}
use Rattle.pg_moves.proofs.cursor.past.Goals as goal

pub returns : goal.returns
returns c = past_set c.args.set c.single.result c.up_to_first.result c.sub.result c.args.square c.single.ensures c.up_to_first.ensures c.sub.ensures.members
