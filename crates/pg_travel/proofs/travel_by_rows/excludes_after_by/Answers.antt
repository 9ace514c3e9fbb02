use Rattle.pg_travel.proofs.Common.{◌↔◌, IsTrue, refl, subst, Placement, State, one_result, TravelTest, TravelHolds}
use Rattle.pg_travel.proofs.travel_by_rows.excludes_after_by.Goals as goal

pub returns-then-above_after : goal.returns-then-above_after
unfolding TravelHolds
returns-then-above_after c = λ q legal. ((λ t. (c.args.position.now.side, subst (λ (d : Placement). TravelTest d q c.args.left c.args.position.now.side) (c.is_of.ensures.0 c.if-is_of.true) (c.above_after.ensures c.if-above_after.true q legal))), (λ h. refl))

pub returns-then-not-is_told_by : goal.returns-then-not-is_told_by
returns-then-not-is_told_by c = λ q legal. subst (λ (s : State). IsTrue c.either_excludes.result ↔ TravelHolds c.args.diagram.now s c.args.left) (one_result c.args.position.now c.args.m.now c.after-there.result q c.after-there.ensures.from c.after-there.ensures.legal legal) c.either_excludes.ensures

pub returns-else-is_of : goal.returns-else-is_of
returns-else-is_of c = λ q legal. subst (λ (s : State). IsTrue c.travel_holds.result ↔ TravelHolds c.args.diagram.now s c.args.left) (one_result c.args.position.now c.args.m.now c.after.result q c.after.ensures.from c.after.ensures.legal legal) c.travel_holds.ensures
