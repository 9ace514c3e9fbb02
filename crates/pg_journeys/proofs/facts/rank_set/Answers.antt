use Rattle.pg_journeys.proofs.SquareLemmas.{rank_squares}
use Rattle.pg_journeys.proofs.facts.rank_set.Goals as goal

pub returns : goal.returns
returns c = rank_squares c.args.rank c.of_bits.result c.requires.low c.requires.high c.of_bits.ensures
