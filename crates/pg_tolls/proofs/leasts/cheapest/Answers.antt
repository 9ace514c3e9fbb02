use Rattle.pg_tolls.proofs.Common.{ℕ, ◌≤◌, arith, IsCost}
use Rattle.std.proofs.lemmas.Int.{ints}
use Rattle.pg_tolls.proofs.Cheapness.{none_is, some_is}
use Rattle.pg_tolls.proofs.leasts.cheapest.Goals as goal

pub returns-in-None : goal.returns-in-None
returns-in-None c = none_is (IsCost c.args.half.now c.args.diagram.now c.args.position.now) c.value_by.result c.in-None.is c.value_by.ensures

pub returns-in-Some : goal.returns-in-Some
returns-in-Some c =
    let both : IsCost c.args.half.now c.args.diagram.now c.args.position.now c.in-Some.cost × ((w : ℕ) → IsCost c.args.half.now c.args.diagram.now c.args.position.now w → c.in-Some.cost ≤ w) =
    some_is (IsCost c.args.half.now c.args.diagram.now c.args.position.now) c.value_by.result c.in-Some.cost c.in-Some.is c.value_by.ensures in
    (c.in-Some.cost, omega (arith, ints, c.from.ensures, c.from-in-Some.ensures, c.surplus.ensures.value, c.surplus.ensures.low), both.1)
