use Rattle.pg_journeys.proofs.SquareLemmas.{shifted_east}
use Rattle.pg_journeys.proofs.ground.east_of.Goals as goal

pub returns : goal.returns
returns c = shifted_east c.args.set c.bits.result c.of_bits-moved.result c.first_file.result c.sub.result c.bits.ensures c.of_bits-moved.ensures c.first_file.ensures c.sub.ensures.members
