use Rattle.pg_travel.proofs.Common.{◌≤◌, arith, least_steps, distance_of}
use Rattle.pg_travel.proofs.Nearness.{no_sooner}
use Rattle.pg_travel.proofs.distances.closer.Goals as goal

pub returns-then-best-least_steps : goal.returns-then-best-least_steps
returns-then-best-least_steps c =
    let low : least_steps c.args.man.color c.args.kind c.args.man.kind c.args.from c.args.to ≤ distance_of c.args.man.color c.args.kind c.args.man.kind c.args.from c.args.to = no_sooner c.args.man.color c.args.kind c.args.man.kind c.args.from c.args.to c.index.ensures.bound c.index-2.ensures.bound in
    omega (arith, low, c.least_steps.ensures, c.if-best-least_steps.true)
