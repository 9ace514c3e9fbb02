use Rattle.pg_journeys.proofs.SquareLemmas.{shifted_west}
use Rattle.pg_journeys.proofs.ground.west_of.Goals as goal

pub returns : goal.returns
returns c = shifted_west c.args.set c.bits.result c.of_bits-moved.result c.last_file.result c.sub.result c.bits.ensures c.bits.type_inv c.of_bits-moved.ensures c.last_file.ensures c.sub.ensures.members
