use Rattle.pg_travel.proofs.Common.{Color, TravelTest, TravelHolds}
use Rattle.pg_travel.proofs.Sides.{of_this}
use Rattle.pg_travel.proofs.travel_by_rows.either_excludes.Goals as goal

pub returns-then-color_excludes : goal.returns-then-color_excludes
unfolding TravelHolds
returns-then-color_excludes c = (λ t. (c.other.result, c.color_excludes.ensures.0 t), λ h. c.if-color_excludes.true)

pub returns-else-color_excludes : goal.returns-else-color_excludes
unfolding TravelHolds
returns-else-color_excludes c = (λ t. (c.side-side.result, c.color_excludes-else-color_excludes.ensures.0 t), λ h. c.color_excludes-else-color_excludes.ensures.1 (of_this (λ (x : Color). TravelTest c.args.diagram.now c.args.position.now c.args.left x) c.side-side.result c.other.result c.color_excludes.result c.other.ensures c.color_excludes.ensures.1 c.if-color_excludes.false h))
