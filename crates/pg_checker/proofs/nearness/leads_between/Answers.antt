use Rattle.pg_checker.proofs.Common.{sym, ap, ◌∙◌, Placement, get}
use Rattle.pg_checker.proofs.Leading.{between_some, between_none}
use Rattle.pg_checker.proofs.nearness.leads_between.Goals as goal

pub returns-in-Some : goal.returns-in-Some
returns-in-Some c = between_some c.args.position.now c.args.diagram.now c.args.last.now c.args.from c.args.to c.plays_to.result c.plays_to.ensures c.if-plays_to.false c.in-Some.man c.plays_to-in-Some.result (ap (λ (b : Placement). get b c.args.to) (sym c.board.ensures.value) ∙ sym c.get.ensures ∙ c.in-Some.is) c.plays_to-in-Some.ensures

pub returns-in-None : goal.returns-in-None
returns-in-None c = between_none c.args.position.now c.args.diagram.now c.args.last.now c.args.from c.args.to c.plays_to.result c.plays_to.ensures c.if-plays_to.false (ap (λ (b : Placement). get b c.args.to) (sym c.board.ensures.value) ∙ sym c.get.ensures ∙ c.in-None.is)
