use Rattle.pg_journeys.proofs.Common.{ℕ, EndWithin}
use Rattle.pg_journeys.proofs.EndLemmas.{count_far, count_here, count_last, none_next}
use Rattle.pg_journeys.proofs.plans.count_by_asking.Goals as goal

pub returns-then-not-comes_within : goal.returns-then-not-comes_within
returns-then-not-comes_within c = count_far (λ (n : ℕ). EndWithin c.args.side.now c.args.man.now.is_quiet c.args.e n c.args.man.now.kind c.args.man.now.square) c.args.most c.comes_within.result c.comes_within.ensures c.if-not-comes_within.true

pub returns-then-comes_within : goal.returns-then-comes_within
returns-then-comes_within c = count_here (λ (n : ℕ). EndWithin c.args.side.now c.args.man.now.is_quiet c.args.e n c.args.man.now.kind c.args.man.now.square) c.args.most c.loop-n.n c.comes_within-in-loop-n.result c.comes_within-in-loop-n.ensures c.if-comes_within.true c.loop-n-test.true c.loop-n.invariant

pub loop-n-preserved : goal.loop-n-preserved
loop-n-preserved c = none_next (λ (n : ℕ). EndWithin c.args.side.now c.args.man.now.is_quiet c.args.e n c.args.man.now.kind c.args.man.now.square) c.loop-n.n c.comes_within-in-loop-n.result c.comes_within-in-loop-n.ensures c.if-comes_within.false c.loop-n.invariant

pub returns : goal.returns
returns c = count_last (λ (n : ℕ). EndWithin c.args.side.now c.args.man.now.is_quiet c.args.e n c.args.man.now.kind c.args.man.now.square) c.args.most c.loop-n.n c.comes_within.result c.comes_within.ensures c.if-not-comes_within.false c.loop-n-test.false c.loop-n.invariant
