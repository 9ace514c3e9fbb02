use Rattle.pg_journeys.proofs.Common.{◌+◌, refl, arith, ◌∙◌, length-set}
use Rattle.pg_journeys.proofs.EndLemmas.{like_next, like_full, like_all}
use Rattle.pg_journeys.proofs.plans.fill_ends.Goals as goal

pub loop-e-preserved : goal.loop-e-preserved
loop-e-preserved c = record {
  long = length-set c.loop-e.aims c.loop-e.e c.aim.new.rings ∙ c.loop-e.invariant.long;
  is = like_next c.args.ground.now c.args.goals.now c.args.is_quiet c.loop-e.aims c.aim.new.rings c.loop-e.e (c.loop-e.e + 1) refl (omega (arith, c.loop-e.invariant.long, c.loop-e-test.true, c.requires.goals.few)) c.loop-e-test.true c.aim.ensures c.loop-e.invariant.is;
}

pub returns-then-with_fall : goal.returns-then-with_fall
returns-then-with_fall c = like_all c.args.ground.now c.args.goals.now c.args.is_quiet c.loop-e.aims c.aim-then-with_fall.new.rings c.loop-e.e c.args.with_fall (omega (arith, c.loop-e-test.false, c.loop-e.auto.e-end)) c.requires.goals.few c.loop-e.invariant.long c.aim-then-with_fall.ensures c.loop-e.invariant.is

pub returns-else-with_fall : goal.returns-else-with_fall
returns-else-with_fall c = like_full c.args.ground.now c.args.goals.now c.args.is_quiet c.loop-e.aims c.loop-e.e c.args.with_fall (omega (arith, c.loop-e-test.false, c.loop-e.auto.e-end)) c.if-with_fall.false c.loop-e.invariant.is
