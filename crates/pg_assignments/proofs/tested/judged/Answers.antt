use Rattle.pg_assignments.proofs.Common.{refl, arith, cost, nth}
use Rattle.pg_assignments.proofs.DualLemmas.{reached, beyond}
use Rattle.pg_assignments.proofs.tested.judged.Goals as goal

pub overflow_add-charged : goal.overflow_add-charged
overflow_add-charged c = omega (arith, c.sum-charged.ensures.low)

pub returns-then-charged-paid : goal.returns-then-charged-paid
returns-then-charged-paid c = beyond (cost c.args.costs.now) (nth c.args.proposal.now.rows) (nth c.args.proposal.now.columns) c.args.costs.now.size c.args.costs.now.size 16 c.sum-paid.result c.sum-charged.result c.requires c.requires c.sum-paid.ensures.value c.sum-charged.ensures.value (c.if-not-fits.ensures refl) (omega (arith, c.if-charged-paid.true))

pub overflow_add-from : goal.overflow_add-from
overflow_add-from c = omega (arith, c.sum-charged.ensures.low, c.from.ensures, c.from.type_inv)

pub returns-then-from-charged : goal.returns-then-from-charged
returns-then-from-charged c = reached (cost c.args.costs.now) (nth c.args.proposal.now.rows) (nth c.args.proposal.now.columns) c.args.costs.now.size c.args.costs.now.size 16 c.in-Some.x c.sum-paid.result c.sum-charged.result c.requires c.sum-paid.ensures.value c.sum-charged.ensures.value (c.if-not-fits.ensures refl) (nth c.args.proposal.now.to, c.in-Some.ensures.value.0, c.in-Some.ensures.value.1) (omega (arith, c.if-from-charged.true, c.from.ensures))
