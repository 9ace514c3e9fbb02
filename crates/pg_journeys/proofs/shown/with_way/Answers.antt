use Rattle.pg_journeys.proofs.Common.{Some, refl, facts_of}
use Rattle.pg_journeys.proofs.ShownWays.{dead_way, add_next}
use Rattle.pg_journeys.proofs.shown.with_way.Goals as goal

pub returns-in-None : goal.returns-in-None
returns-in-None c = λ d k ways side budgets old. dead_way (facts_of c.args.moves.now.side.now) d c.args.moves.now.side.now.position k c.args.moves.now.side.now.terrain.color ways c.args.way (Some c.args.others) (c.in-None.ensures.none d k side budgets) old

pub returns-in-Some : goal.returns-in-Some
returns-in-Some c = λ d k ways side budgets old. (let h = c.in-Some.ensures.some d k side budgets in add_next (facts_of c.args.moves.now.side.now) d c.args.moves.now.side.now.position k c.args.moves.now.side.now.terrain.color ways c.args.way (Some c.args.others) c.args.others c.in-Some.shown _ refl c.joined.ensures old h.0 h.1)
