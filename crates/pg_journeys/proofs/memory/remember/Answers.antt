use Rattle.pg_journeys.proofs.Common.{true, All-set, IsRemembered, Remembered}
use Rattle.pg_journeys.proofs.memory.remember.Goals as goal

pub returns-then-place-shown : goal.returns-then-place-shown
returns-then-place-shown c = λ d all is. All-set (λ (r : Remembered). IsRemembered d r) c.args.shown.now c.place_for-place.result (record { case = c.args.case.now; shown = c.args.answer.now; is_told = true }) (λ t. is) all
