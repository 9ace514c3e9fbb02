use Rattle.pg_travel.proofs.AfterMove.{none_is, is_not, not_true}
use Rattle.pg_travel.proofs.after_move.is_told.Goals as goal

pub returns : goal.returns
returns c = λ t. (none_is c.args.m.now.promotion c.is_some.result c.is_some.ensures c.if-is_some.false, is_not c.may_castle.result c.may_castle.ensures (not_true c.may_castle.result t))
