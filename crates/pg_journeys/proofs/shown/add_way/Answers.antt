use Rattle.pg_journeys.proofs.Common.{Option, subst, facts_of, ShowsAmong, Shown}
use Rattle.pg_journeys.proofs.ShownWays.{add_first, if_none, if_some}
use Rattle.pg_journeys.proofs.shown.add_way.Goals as goal

pub returns-in-None : goal.returns-in-None
returns-in-None c = λ d k ways side budgets old. add_first (facts_of c.args.moves.now.side.now) d c.args.moves.now.side.now.position k c.args.moves.now.side.now.terrain.color ways c.args.way c.args.before c.way_shown.result c.none.result c.in-None.is c.none.ensures old
    (if_none c.way_shown.result (λ h. h d k side budgets) c.way_shown.ensures.none) (if_some c.way_shown.result (λ a h. h d k side budgets) c.way_shown.ensures.some)

pub returns-in-Some : goal.returns-in-Some
returns-in-Some c = λ d k ways side budgets old. c.with_way.ensures d k ways side budgets (subst (λ (o : Option Shown). ShowsAmong (facts_of c.args.moves.now.side.now) d c.args.moves.now.side.now.position k c.args.moves.now.side.now.terrain.color ways o) c.in-Some.is old)
