use Rattle.pg_journeys.proofs.SquareLemmas.{walls_set}
use Rattle.pg_journeys.proofs.facts.walls.Goals as goal

pub returns : goal.returns
returns c = walls_set c.args.goal.now c.new.result c.new-2.result c.squares_of.result c.rank_set.result c.bitand.result c.squares_of-2.result c.rank_set-2.result c.bitand-2.result c.bitor.result c.new.ensures c.new-2.ensures c.squares_of.ensures c.rank_set.ensures c.bitand.ensures.members c.squares_of-2.ensures c.rank_set-2.ensures c.bitand-2.ensures.members c.bitor.ensures.members
