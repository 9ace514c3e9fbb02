use Rattle.pg_journeys.proofs.Common.{◌+◌, refl, arith, ◌∙◌, length-set}
use Rattle.pg_journeys.proofs.CostLemmas.{comes_next, row_full, row_falls}
use Rattle.pg_journeys.proofs.SideLemmas.{goals_few}
use Rattle.pg_journeys.proofs.plans.row.Goals as goal

pub loop-j-preserved : goal.loop-j-preserved
loop-j-preserved c = record {
  long = length-set c.loop-j.row c.loop-j.j c.arrival.result ∙ c.loop-j.invariant.long;
  is = comes_next c.args.side.now c.args.most c.args.man.now.runner c.loop-j.row c.loop-j.j (c.loop-j.j + 1) c.arrival.result refl (omega (arith, c.loop-j.invariant.long, c.loop-j-test.true, goals_few c.args.side.now)) c.arrival.ensures c.loop-j.invariant.is;
}

pub returns-then-side : goal.returns-then-side
returns-then-side c = row_falls c.args.side.now c.args.most c.args.man.now c.loop-j.row c.with_falls.result c.loop-j.j c.fall-fall.result (omega (arith, c.loop-j-test.false, c.loop-j.auto.j-end)) c.loop-j.invariant.is c.fall-fall.ensures c.with_falls.ensures.kept c.with_falls.ensures.falls

pub returns : goal.returns
returns c = row_full c.args.side.now c.args.most c.args.man.now c.loop-j.row c.loop-j.j (omega (arith, c.loop-j-test.false, c.loop-j.auto.j-end)) c.if-side.false c.loop-j.invariant.is
