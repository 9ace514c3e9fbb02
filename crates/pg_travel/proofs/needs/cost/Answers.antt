use Rattle.pg_travel.proofs.Common.{sym, ◌∙◌, cost_home}
use Rattle.pg_travel.proofs.needs.cost.Goals as goal

pub returns-then-is_home-clause-value : goal.returns-then-is_home-clause-value
returns-then-is_home-clause-value c =
    let home = c.is_home.ensures.0 c.if-is_home.true in
    cost_home c.args.board.now c.args.goal.now c.args.color c.args.way c.args.t c.in-Some.m (sym c.get.ensures ∙ c.in-Some.is) (sym c.get-then-same_side.ensures ∙ home.0) (sym c.same_side.ensures ∙ c.if-same_side.true) home.1
