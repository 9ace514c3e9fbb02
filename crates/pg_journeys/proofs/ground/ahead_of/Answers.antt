use Rattle.pg_journeys.proofs.SquareLemmas.{shifted_up, shifted_down}
use Rattle.pg_journeys.proofs.ground.ahead_of.Goals as goal

pub returns-in-White : goal.returns-in-White
returns-in-White c = shifted_up c.args.color c.args.set c.bits.result c.args.free c.of_bits.result c.bitand.result c.in-White.is c.bits.ensures c.of_bits.ensures c.bitand.ensures.members

pub returns-in-Black : goal.returns-in-Black
returns-in-Black c = shifted_down c.args.color c.args.set c.bits-in-Black.result c.args.free c.of_bits-in-Black.result c.bitand-in-Black.result c.in-Black.is c.bits-in-Black.ensures c.bits-in-Black.type_inv c.of_bits-in-Black.ensures c.bitand-in-Black.ensures.members
