use Rattle.pg_moves.proofs.Common.{ap, other}
use Rattle.pg_moves.proofs.ShiftLemmas.{ahead_white, ahead_black}
use Rattle.pg_moves.proofs.men.one_ahead.Goals as goal

pub returns-in-White : goal.returns-in-White
returns-in-White c = rw (c.of_bits.ensures, c.bits.ensures) (ahead_black (other c.args.color) c.args.set 8 (ap other c.in-White.is))

pub returns-in-Black : goal.returns-in-Black
returns-in-Black c = rw (c.of_bits-in-Black.ensures, c.bits-in-Black.ensures) (ahead_white (other c.args.color) c.args.set 8 (ap other c.in-Black.is))
