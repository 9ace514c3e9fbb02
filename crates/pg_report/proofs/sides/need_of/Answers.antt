use Rattle.pg_report.proofs.Common.{below_more, arith, refl, subst, ℕ, ◌≡◌, IsLastReason}
use Rattle.pg_report.proofs.ShortestLemmas.{none_left}
use Rattle.pg_report.proofs.SideLemmas.{bound_bar, open_need}
use Rattle.pg_report.proofs.sides.need_of.Goals as goal

pub returns-in-None : goal.returns-in-None
returns-in-None c = open_need c.args.diagram.now c.args.offers.now.color c.loop-plies.plies c.plies_left.result c.loop-plies.reason c.loop-plies.invariant.barren c.loop-plies.invariant.last c.plies_left.ensures c.in-None.ensures.is_open

pub loop-plies-preserved : goal.loop-plies-preserved
loop-plies-preserved c = record {
  barren = below_more _ _ c.loop-plies.invariant.barren (bound_bar c.args.diagram.now c.loop-plies.plies c.args.offers.now.color c.in-Some.found c.in-Some.ensures.binds);
  last = (c.loop-plies.plies, refl, c.in-Some.ensures.binds);
}

pub returns : goal.returns
returns c =
    let whole : c.loop-plies.plies ≡ 129 = omega (arith, c.loop-plies-test.false, c.loop-plies.auto.plies-end) in
    ((λ m ms few. none_left c.args.diagram.now c.loop-plies.plies c.loop-plies.invariant.barren m ms (omega (arith, few, c.loop-plies-test.false))), subst (λ (m : ℕ). IsLastReason c.args.diagram.now m c.args.offers.now.color c.loop-plies.reason) whole c.loop-plies.invariant.last)
