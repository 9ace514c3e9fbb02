use Rattle.pg_san.proofs.Common.{refl, not_both}
use Rattle.pg_san.proofs.RivalLemmas.{rival_found, rival_next, rival_none}
use Rattle.pg_san.proofs.rivals.has_rival.Goals as goal

pub returns-then-is_rival : goal.returns-then-is_rival
returns-then-is_rival c = (λ t. rival_found c.args.position.now c.args.kind c.args.m.now c.args.among c.others-men.result c.loop-square.at c.in-Some.square c.others-men.ensures c.in-Some.ensures (c.is_rival.ensures.0 c.if-is_rival.true), λ h. refl)

pub loop-square-preserved : goal.loop-square-preserved
loop-square-preserved c = rival_next c.args.position.now c.args.kind c.args.m.now c.args.among c.others-men.result c.loop-square.at c.in-Some.square c.others-men.ensures c.index-at.result c.in-Some.ensures (λ h. not_both (c.is_rival.ensures.1 h) c.if-is_rival.false) c.index-at.ensures.value c.loop-square.invariant

pub returns : goal.returns
returns c = (
  λ t. absurd (not_both t refl),
  λ h. absurd (rival_none c.args.position.now c.args.kind c.args.m.now c.args.among c.others-men.result c.loop-square.at c.requires c.others-men.ensures c.in_default.ensures c.loop-square.invariant h),
)
