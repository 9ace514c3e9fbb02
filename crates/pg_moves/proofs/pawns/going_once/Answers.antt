use Rattle.pg_moves.proofs.Common.{arith}
use Rattle.pg_moves.proofs.ShiftLemmas.{ahead_set}
use Rattle.pg_moves.proofs.pawns.going_once.Goals as goal

pub returns : goal.returns
returns c = ahead_set c.args.color 8 c.args.pawns c.seen_ahead.result c.empty_squares.result c.bitand.result (omega arith) c.requires c.seen_ahead.ensures c.empty_squares.ensures c.bitand.ensures.members
