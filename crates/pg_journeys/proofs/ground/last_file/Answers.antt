use Rattle.pg_journeys.proofs.SquareLemmas.{last_squares}
use Rattle.pg_journeys.proofs.ground.last_file.Goals as goal

pub returns : goal.returns
returns c = last_squares c.of_bits.result c.of_bits.ensures
