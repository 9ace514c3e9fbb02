use Rattle.pg_travel.proofs.Common.{true, refl, answer_is, dec_travel, TravelHolds}
use Rattle.pg_travel.proofs.travel_by_rows.TravelByRowsBound.excludes_after.Goals as goal

pub returns-then-far_off_after : goal.returns-then-far_off_after
unfolding TravelHolds
returns-then-far_off_after c = λ q legal. answer_is true ((λ t. (c.args.position.now.side, c.far_off_after.ensures c.if-far_off_after.true q legal)), (λ h. refl)) (dec_travel c.args.diagram.now q c.args.left)

pub returns : goal.returns
returns c = λ q legal. answer_is c.excludes_after_by.result (c.excludes_after_by.ensures q legal) (dec_travel c.args.diagram.now q c.args.left)
