use Rattle.pg_travel.proofs.Common.{sym, ◌∙◌}
use Rattle.pg_travel.proofs.AfterMove.{unlike_there}
use Rattle.pg_travel.proofs.after_move.differs_there.Goals as goal

pub returns-in-Some : goal.returns-in-Some
returns-in-Some c = λ t. unlike_there c.args.board.now c.args.goal.now c.args.m.now.from c.args.m.now.to c.in-Some.man c.contains.result (sym c.get.ensures ∙ c.in-Some.is) (c.contains.ensures.value ∙ c.squares_of.ensures c.args.m.now.to c.contains.ensures.bound) t
