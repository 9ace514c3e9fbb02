use Rattle.pg_journeys.proofs.StepLemmas.{pawns_become, kings_become, pieces_become}
use Rattle.pg_journeys.proofs.fronts.becoming.Goals as goal

pub returns-in-Pawn : goal.returns-in-Pawn
returns-in-Pawn c = pawns_become c.args.color c.args.kind c.args.set c.rank_set-last.result c.last_rank.result c.sub.result c.last_rank.ensures.value c.rank_set-last.ensures c.in-Pawn.is c.sub.ensures.members

pub returns-in-King : goal.returns-in-King
returns-in-King c = kings_become c.args.color c.args.kind c.args.set c.rank_set-last.result c.last_rank.result c.empty.result c.last_rank.ensures.value c.rank_set-last.ensures c.in-King.is c.empty.ensures.none

pub returns-in_default : goal.returns-in_default
returns-in_default c = pieces_become c.args.color c.args.kind c.args.set c.rank_set-last.result c.last_rank.result c.bitand.result c.last_rank.ensures.value c.rank_set-last.ensures c.in_default.not-Pawn c.in_default.not-King c.bitand.ensures.members
