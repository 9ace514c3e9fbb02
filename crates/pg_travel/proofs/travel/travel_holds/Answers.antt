use Rattle.pg_travel.proofs.Common.{Color, TravelTest, TravelHolds}
use Rattle.pg_travel.proofs.Sides.{of_this}
use Rattle.pg_travel.proofs.travel.travel_holds.Goals as goal

pub returns-then-excludes_for : goal.returns-then-excludes_for
unfolding TravelHolds
returns-then-excludes_for c = (λ t. (c.other.result, c.excludes_for.ensures.0 t), λ h. c.if-excludes_for.true)

pub returns-else-excludes_for : goal.returns-else-excludes_for
unfolding TravelHolds
returns-else-excludes_for c = (λ t. (c.side-side.result, c.excludes_for-else-excludes_for.ensures.0 t), λ h. c.excludes_for-else-excludes_for.ensures.1 (of_this (λ (x : Color). TravelTest c.args.diagram.now c.args.position.now c.args.left x) c.side-side.result c.other.result c.excludes_for.result c.other.ensures c.excludes_for.ensures.1 c.if-excludes_for.false h))
