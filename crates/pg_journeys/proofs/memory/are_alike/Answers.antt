use Rattle.pg_journeys.proofs.LastRounds.{same_sets}
use Rattle.pg_journeys.proofs.memory.are_alike.Goals as goal

pub returns-then-eq : goal.returns-then-eq
returns-then-eq c = λ t. c.same_part.ensures t (c.same_color.ensures c.if-not-same_color.false) (same_sets c.args.one.now.facts c.args.another.now.facts c.eq.result c.eq.ensures c.if-eq.true)
