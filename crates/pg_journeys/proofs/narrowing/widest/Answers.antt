use Rattle.pg_journeys.proofs.Common.{◌≡◌, ℕ, ◌<◌, ◌≤◌, get_or, inl, inr, subst, arith, cases_lt}
use Rattle.pg_journeys.proofs.narrowing.widest.Goals as goal

pub loop-e-preserved : goal.loop-e-preserved
loop-e-preserved c = record {
  above = λ e l s. elim (cases_lt e c.loop-e.e) [
    | inl less ↦ (let a : get_or c.args.rooms.now e 0 ≤ c.loop-e.most = c.loop-e.invariant.above e less s in let b : c.loop-e.most ≤ c.wider-most.result = c.wider-most.ensures.above in omega arith)
    | inr over ↦ (let same : c.loop-e.e ≡ e = omega arith in subst (λ (x : ℕ). get_or c.args.rooms.now x 0 < 255 → get_or c.args.rooms.now x 0 ≤ c.wider-most.result) same c.wider-most.ensures.over s)
  ];
  low = λ n all. c.wider-most.ensures.low n (c.loop-e.invariant.low n all) (all c.loop-e.e (omega arith));
}
