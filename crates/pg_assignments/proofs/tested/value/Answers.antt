use Rattle.pg_assignments.proofs.Common.{◌≡◌, ◌<◌, ◌+◌, sym, ap, subst, refl, arith, ◌∙◌, total, cost, sum_of, nth, AreHeld, total-none, total-more}
use Rattle.pg_assignments.proofs.TestLemmas.{held_next, exists_next, assigned_held, owned_held}
use Rattle.pg_assignments.proofs.tested.value.Goals as goal

pub loop-i-init : goal.loop-i-init
loop-i-init c = record {
  held = λ i l. absurd (omega arith);
  exists = λ i l. absurd (omega arith);
  sum = sym (total-none (λ i. cost c.args.costs.now i (nth c.args.to.now i)));
  low = omega arith;
}

pub loop-i-preserved : goal.loop-i-preserved
loop-i-preserved c =
    let is : c.from-column.result ≡ nth c.args.to.now c.loop-i.i = c.from-column.ensures in
    let at : c.at-cost.result ≡ cost c.args.costs.now c.loop-i.i (nth c.args.to.now c.loop-i.i) = c.at-cost.ensures ∙ ap (cost c.args.costs.now c.loop-i.i) is in
    let small : c.at-cost.result < 255 = omega (arith, c.if-cost.false, c.at-cost.type_inv) in
    let own : c.from.result ≡ c.loop-i.i = omega (arith, c.if-from-i.false) in
    let owner : nth c.args.owner.now (nth c.args.to.now c.loop-i.i) ≡ c.loop-i.i = ap (nth c.args.owner.now) (sym is) ∙ sym c.from.ensures ∙ own in
    let step : c.from-sum.result ≡ c.at-cost.result = c.from-sum.ensures in
    let more : total (λ i. cost c.args.costs.now i (nth c.args.to.now i)) (c.loop-i.i + 1) ≡ total (λ i. cost c.args.costs.now i (nth c.args.to.now i)) c.loop-i.i + cost c.args.costs.now c.loop-i.i (nth c.args.to.now c.loop-i.i) = total-more (λ i. cost c.args.costs.now i (nth c.args.to.now i)) c.loop-i.i in
    record {
      held = held_next c.args.to.now c.args.owner.now c.args.costs.now.size c.loop-i.i (c.loop-i.i + 1) refl (omega (arith, is, c.if-column-costs.false)) owner c.loop-i.invariant.held;
      exists = exists_next (cost c.args.costs.now) (nth c.args.to.now) c.loop-i.i (c.loop-i.i + 1) refl (omega arith) c.loop-i.invariant.exists;
      sum = omega (arith, c.loop-i.invariant.sum);
      low = omega (arith, c.loop-i.invariant.low);
    }

pub returns-clause-value : goal.returns-clause-value
returns-clause-value c = let end : c.loop-i.i ≡ c.args.costs.now.size = omega (arith, c.loop-i-test.false, c.loop-i.auto.i-end) in (
  assigned_held (cost c.args.costs.now) c.args.to.now c.args.owner.now c.args.costs.now.size (subst (λ m. AreHeld c.args.to.now c.args.owner.now c.args.costs.now.size m) end c.loop-i.invariant.held) (λ a l. c.loop-i.invariant.exists a (omega arith)),
  c.loop-i.invariant.sum ∙ ap (sum_of (cost c.args.costs.now) (nth c.args.to.now)) end,
)

pub returns-clause-owned : goal.returns-clause-owned
returns-clause-owned c = let end : c.loop-i.i ≡ c.args.costs.now.size = omega (arith, c.loop-i-test.false, c.loop-i.auto.i-end) in
    owned_held c.args.to.now c.args.owner.now c.args.costs.now.size (subst (λ m. AreHeld c.args.to.now c.args.owner.now c.args.costs.now.size m) end c.loop-i.invariant.held)
