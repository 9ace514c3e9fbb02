use Rattle.pg_journeys.proofs.Common.{◌-◌, arith, known}
use Rattle.pg_journeys.proofs.RingLemmas.{takes_quiet, takes_moves, takes_nobody}
use Rattle.pg_journeys.proofs.rings.takes_within.Goals as goal

pub returns-then-man : goal.returns-then-man
returns-then-man c =
    let man = c.args.man.now in
    takes_quiet (known c.args.ground.now.facts) c.args.ground.now.color man.is_quiet man.kind man.square c.args.n c.taken_after.result c.if-man.true c.taken_after.ensures

pub returns-then-n-eq0 : goal.returns-then-n-eq0
returns-then-n-eq0 c =
    let man = c.args.man.now in
    takes_nobody (known c.args.ground.now.facts) c.args.ground.now.color man.is_quiet man.kind man.square c.args.n c.nobody.result c.if-man.false c.if-n-eq0.true c.nobody.ensures

pub returns : goal.returns
returns c =
    let man = c.args.man.now in
    takes_moves (known c.args.ground.now.facts) c.args.ground.now.color man.is_quiet man.kind man.square (c.args.n - 1) c.args.n c.taken_after-2.result c.if-man.false (omega (arith, c.if-n-eq0.false)) c.taken_after-2.ensures
