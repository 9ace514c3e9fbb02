use Rattle.pg_assignments.proofs.Common.{arith, cost, nth}
use Rattle.pg_assignments.proofs.DualLemmas.{beyond}
use Rattle.pg_assignments.proofs.with_all.shows_none.Goals as goal

pub returns-then-charged-paid : goal.returns-then-charged-paid
returns-then-charged-paid c = λ t. beyond (cost c.args.costs.now) (nth c.args.proposal.now.rows) (nth c.args.proposal.now.columns) c.args.costs.now.size c.args.costs.now.size 16 c.sum-paid.result c.sum-charged.result c.requires c.requires c.sum-paid.ensures.value c.sum-charged.ensures.value (c.fits.ensures t) (omega (arith, c.if-charged-paid.true))
