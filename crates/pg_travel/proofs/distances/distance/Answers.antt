use Rattle.pg_travel.proofs.Common.{none_by_steps, some_by_steps}
use Rattle.pg_travel.proofs.distances.distance.Goals as goal

pub returns-then-n-eq64 : goal.returns-then-n-eq64
returns-then-n-eq64 c = none_by_steps c.args.man.color c.args.man.kind c.args.from c.args.kind c.args.to c.all_steps-n.result c.index.ensures.bound c.index-2.ensures.bound c.all_steps-n.ensures.value c.if-n-eq64.true

pub returns-else-n-eq64 : goal.returns-else-n-eq64
returns-else-n-eq64 c = some_by_steps c.args.man.color c.args.man.kind c.args.from c.args.kind c.args.to c.all_steps-n.result c.index.ensures.bound c.index-2.ensures.bound c.all_steps-n.ensures.value c.if-n-eq64.false
