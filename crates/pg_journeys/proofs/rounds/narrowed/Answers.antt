use Rattle.pg_journeys.proofs.NextRounds.{next_of}
use Rattle.pg_journeys.proofs.rounds.narrowed.Goals as goal

pub returns : goal.returns
returns c = λ k white black. next_of c.args.facts.now c.args.diagram.now c.args.position.now k c.args.white.now c.args.black.now c.still_after-still.result c.landing_after.result c.landing_after-2.result c.still_after-still.ensures c.landing_after.ensures c.landing_after-2.ensures white black
