use Rattle.pg_moves.proofs.ShiftLemmas.{ahead_white, ahead_black}
use Rattle.pg_moves.proofs.pawns.seen_ahead.Goals as goal

pub returns-in-White : goal.returns-in-White
returns-in-White c = rw (c.of_bits.ensures, c.bits.ensures) (ahead_white c.args.color c.args.set c.args.by c.in-White.is)

pub returns-in-Black : goal.returns-in-Black
returns-in-Black c = rw (c.of_bits-in-Black.ensures, c.bits-in-Black.ensures) (ahead_black c.args.color c.args.set c.args.by c.in-Black.is)
