use Rattle.pg_checker.proofs.Found.{added_finding, added_found, lost_finding, no_loss, not_there}
use Rattle.pg_checker.proofs.finds.keep.Goals as goal

pub returns-in-Ok-clause-found : goal.returns-in-Ok-clause-found
returns-in-Ok-clause-found c = added_found c.args.finds.now c.add.new.self c.args.game.now c.in-Ok.ensures.ok

pub returns-in-Ok-clause-finding : goal.returns-in-Ok-clause-finding
returns-in-Ok-clause-finding c = λ d n is. added_finding d n c.args.finds.now c.add.new.self c.args.game.now (no_loss c.args.finds.now.loss c.is_some.result c.is_some.ensures c.if-is_some.false) c.in-Ok.ensures.ok is

pub returns-in-Err-clause-finding : goal.returns-in-Err-clause-finding
returns-in-Err-clause-finding c = λ d n is. lost_finding d n c.args.finds.now c.add.new.self c.args.game.now c.in-Err.fault c.loss_of.result c.in-Err.ensures.unchanged c.loss_of.ensures c.in-Err.ensures.err (not_there c.args.finds.now.games c.args.game.now c.contains.result c.contains.ensures c.if-contains.false) is
