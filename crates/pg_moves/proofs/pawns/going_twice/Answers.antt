use Rattle.pg_moves.proofs.Common.{arith, has}
use Rattle.pg_moves.proofs.ShiftLemmas.{ahead_set, fewer_inside, home_and}
use Rattle.pg_moves.proofs.pawns.going_twice.Goals as goal

pub returns : goal.returns
returns c = home_and c.args.board.now c.args.color c.args.once c.home.result c.bitand.result c.bitand-2.result c.home.ensures c.bitand.ensures.members
    (ahead_set c.args.color 16 c.bitand.result c.seen_ahead.result c.empty_squares.result c.bitand-2.result (omega arith)
    (fewer_inside c.args.color c.args.once c.bitand.result (has c.home.result) c.requires (λ q _. c.bitand.ensures.members q)) c.seen_ahead.ensures c.empty_squares.ensures c.bitand-2.ensures.members)
