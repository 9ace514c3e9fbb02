use Rattle.pg_journeys.proofs.KindLemmas.{no_arrival}
use Rattle.pg_journeys.proofs.plans.arrival.Goals as goal

pub returns-then-not-is_among : goal.returns-then-not-is_among
returns-then-not-is_among c = no_arrival c.args.side.now c.args.most c.args.e c.args.kinds c.args.man.now c.is_among.result c.requires.goal c.requires.kinds c.is_among.ensures c.if-not-is_among.true
