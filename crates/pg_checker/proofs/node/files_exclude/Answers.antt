use Rattle.pg_checker.proofs.Common.{sym, ◌∙◌}
use Rattle.pg_checker.proofs.Pricing.{files_said}
use Rattle.pg_checker.proofs.node.files_exclude.Goals as goal

pub returns-then-ways-eq1 : goal.returns-then-ways-eq1
returns-then-ways-eq1 c = files_said c.args.diagram.now c.args.position.now c.args.color c.args.prices.now c.u.result.now c.v.result.now c.prices_exclude.result (sym c.ways.ensures.number ∙ c.if-ways-eq1.true) c.u.ensures c.v.ensures c.prices_exclude.ensures.exact
