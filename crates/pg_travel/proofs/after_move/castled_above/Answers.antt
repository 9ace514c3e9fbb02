use Rattle.pg_travel.proofs.Common.{ltb-true, arith}
use Rattle.pg_travel.proofs.AfterMove.{if_held}
use Rattle.pg_travel.proofs.CastledRows.{castled_over}
use Rattle.pg_travel.proofs.after_move.castled_above.Goals as goal

pub returns-then-holds : goal.returns-then-holds
returns-then-holds c = λ t q valid rights below. if_held q c.args.rows.now c.args.color c.args.right c.args.plies (λ held. castled_over q c.args.rows.now c.args.color c.args.right c.args.row c.castled.result c.args.plies c.cost_by.result valid held below c.castled.ensures c.requires c.cost_by.ensures (omega (arith, ltb-true c.args.plies c.cost_by.result t)))
