use Rattle.pg_journeys.proofs.Common.{lt-ltb}
use Rattle.pg_journeys.proofs.EndLemmas.{like_itself}
use Rattle.pg_journeys.proofs.SideLemmas.{goals_on, side_ground}
use Rattle.pg_journeys.proofs.plans.fill_aims.Goals as goal

pub returns : goal.returns
returns c = c.fill_ends.ensures c.args.side.now (like_itself c.args.side.now) (λ more. lt-ltb c.args.side.now.goals.count c.args.side.now.men.count more)

pub fill_ends-requires-clause-sound : goal.fill_ends-requires-clause-sound
fill_ends-requires-clause-sound c = side_ground c.args.side.now

pub fill_ends-requires-clause-goals : goal.fill_ends-requires-clause-goals
fill_ends-requires-clause-goals c = goals_on c.args.side.now
