use Rattle.pg_journeys.proofs.NarrowedSteps.{takes_not, takes_on}
use Rattle.pg_journeys.proofs.narrowing.takes_back.Goals as goal

pub returns-then-not-man : goal.returns-then-not-man
returns-then-not-man c = takes_not c.args.side.now c.args.man.now c.args.e c.args.room c.args.steps c.if-not-man.true

pub returns : goal.returns
returns c = takes_on c.args.side.now c.args.man.now c.args.e c.args.room c.args.steps c.lands.result c.bitand.result c.comes_by.result c.if-not-man.false c.lands.ensures c.bitand.ensures.members c.comes_by.ensures
