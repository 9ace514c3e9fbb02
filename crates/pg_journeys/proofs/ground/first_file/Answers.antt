use Rattle.pg_journeys.proofs.SquareLemmas.{first_squares}
use Rattle.pg_journeys.proofs.ground.first_file.Goals as goal

pub returns : goal.returns
returns c = first_squares c.of_bits.result c.of_bits.ensures
