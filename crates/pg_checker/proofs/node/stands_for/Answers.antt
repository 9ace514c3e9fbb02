use Rattle.pg_checker.proofs.Pricing.{future_said}
use Rattle.pg_checker.proofs.node.stands_for.Goals as goal

pub returns-then-version-eq2 : goal.returns-then-version-eq2
returns-then-version-eq2 c = future_said c.args.version c.args.entry.now c.args.position.now c.same_future.result c.if-version-eq2.true c.same_future.ensures
