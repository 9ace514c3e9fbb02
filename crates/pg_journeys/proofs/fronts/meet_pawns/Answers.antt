use Rattle.pg_journeys.proofs.PawnParts.{pawns_meet}
use Rattle.pg_journeys.proofs.fronts.meet_pawns.Goals as goal

pub returns : goal.returns
returns c = pawns_meet c.args.ground.now.color c.args.set c.rank_set-last.result c.sub.result c.bitand-promoted.result c.last_rank.result c.last_rank.ensures.value c.rank_set-last.ensures c.sub.ensures.members c.bitand-promoted.ensures.members c.args.counts c.args.front.now c.meet.new.self c.meet-2.new.self c.meet-3.new.self c.meet-4.new.self c.meet-5.new.self c.meet.ensures c.meet-2.ensures c.meet-3.ensures c.meet-4.ensures c.meet-5.ensures
