use Rattle.pg_checker.proofs.Common.{refl}
use Rattle.pg_checker.proofs.Differing.{far_elsewhere, two_to_four}
use Rattle.pg_checker.proofs.Leading.{told}
use Rattle.pg_checker.proofs.nearness.leads_to.Goals as goal

pub returns-then-may_reach : goal.returns-then-may_reach
returns-then-may_reach c = told c.args.diagram.now c.args.position.now c.args.m.now c.leads.result c.leads.ensures.away c.leads.ensures.there

pub returns-else-may_reach : goal.returns-else-may_reach
returns-else-may_reach c = told c.args.diagram.now c.args.position.now c.args.m.now _ (λ _ q legal same. far_elsewhere c.args.position.now c.args.position.now c.args.diagram.now c.may_reach.result refl c.differing-squares.ensures.position (λ w. c.may_reach.ensures.1 (two_to_four c.args.position.now.board c.args.diagram.now c.differing-squares.result c.differing-squares.ensures.differ w)) c.if-may_reach.false c.args.m.now q legal same) (λ e. cc)
