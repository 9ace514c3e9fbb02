use Rattle.pg_report.proofs.Common.{refl, ◌∙◌, arith, has, count_below-le}
use Rattle.pg_report.proofs.WithinLemmas.{no_places, none_counted, one_place_more, one_counted}
use Rattle.pg_report.proofs.within.write_list.Goals as goal

pub loop-index-init : goal.loop-index-init
loop-index-init g c = record { text = no_places c.args.how (has c.args.set) (g.W.Sink.held c.args.out.now); runs = refl; counted = none_counted (has c.args.set) }

pub write_place-requires : goal.write_place-requires
write_place-requires g c = omega (arith, c.loop-index.invariant.counted, count_below-le (has c.args.set) c.loop-index.index, c.loop-index-test.true)

pub loop-index-preserved : goal.loop-index-preserved
loop-index-preserved g c = record {
  text = one_place_more c.args.how (has c.args.set) c.loop-index.index c.loop-index.before c.at.result _ _ _ c.loop-index.invariant.counted c.at.ensures c.loop-index.invariant.text c.in_ok-before.ensures.push.text;
  runs = c.in_ok-before.ensures.push.runs ∙ c.loop-index.invariant.runs;
  counted = one_counted (has c.args.set) c.loop-index.index c.loop-index.before c.at.result c.in_ok-before.before c.loop-index.invariant.counted c.at.ensures c.in_ok-before.ensures.count;
}
