use Rattle.pg_moves.proofs.ShiftLemmas.{vacant_set}
use Rattle.pg_moves.proofs.pawns.empty_squares.Goals as goal

pub returns : goal.returns
returns c = vacant_set c.args.board.now c.full.result c.occupied.result c.sub.result c.full.ensures c.occupied.ensures c.sub.ensures.members
