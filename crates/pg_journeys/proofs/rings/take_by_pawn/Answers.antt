use Rattle.pg_journeys.proofs.PawnParts.{pawns_grow}
use Rattle.pg_journeys.proofs.rings.take_by_pawn.Goals as goal

pub returns : goal.returns
returns c = pawns_grow c.args.ground.now.color c.args.set c.rank_set-last.result c.sub.result c.bitand-promoted.result c.last_rank.result c.last_rank.ensures.value c.rank_set-last.ensures c.sub.ensures.members c.bitand-promoted.ensures.members c.args.taken.now c.join.new.sets c.join-2.new.sets c.join-3.new.sets c.join-4.new.sets c.join-5.new.sets c.join.ensures c.join-2.ensures c.join-3.ensures c.join-4.ensures c.join-5.ensures
