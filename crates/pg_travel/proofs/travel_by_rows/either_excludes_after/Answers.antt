use Rattle.pg_travel.proofs.Common.{◌↔◌, IsTrue, subst, Color, State, one_result, TravelTest, TravelHolds}
use Rattle.pg_travel.proofs.Sides.{of_other}
use Rattle.pg_travel.proofs.travel_by_rows.either_excludes_after.Goals as goal

pub returns-then-color_excludes : goal.returns-then-color_excludes
unfolding TravelHolds
returns-then-color_excludes c = λ q legal. subst (λ (s : State). IsTrue c.color_excludes.result ↔ TravelHolds c.args.diagram.now s c.args.left) (one_result c.args.position.now c.args.m.now c.after-there.result q c.after-there.ensures.from c.after-there.ensures.legal legal)
    ((λ t. (c.side-side.result, c.color_excludes.ensures.0 t)), (λ h. c.if-color_excludes.true))

pub returns-else-color_excludes : goal.returns-else-color_excludes
unfolding TravelHolds
returns-else-color_excludes c = λ q legal. subst (λ (s : State). IsTrue c.color_excludes-else-color_excludes.result ↔ TravelHolds c.args.diagram.now s c.args.left) (one_result c.args.position.now c.args.m.now c.after-there.result q c.after-there.ensures.from c.after-there.ensures.legal legal)
    ((λ t. (c.other.result, c.color_excludes-else-color_excludes.ensures.0 t)), (λ h. c.color_excludes-else-color_excludes.ensures.1 (of_other (λ (x : Color). TravelTest c.args.diagram.now c.after-there.result c.args.left x) c.side-side.result c.other.result c.color_excludes.result c.other.ensures c.color_excludes.ensures.1 c.if-color_excludes.false h)))
