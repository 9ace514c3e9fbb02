use Rattle.pg_journeys.proofs.KnownLemmas.{known_aims}
use Rattle.pg_journeys.proofs.known.known_for.Goals as goal

pub returns-then-are_of : goal.returns-then-are_of
returns-then-are_of c = known_aims c.one-item.result c.args.side.now (c.are_of.ensures c.if-are_of.true)
