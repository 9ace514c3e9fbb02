use Rattle.pg_checker.proofs.Common.{arith}
use Rattle.pg_checker.proofs.Leading.{none_below_more, none_below_end}
use Rattle.pg_checker.proofs.nearness.has_leading.Goals as goal

pub loop-from-preserved : goal.loop-from-preserved
loop-from-preserved c = record {
  within = omega arith;
  none = none_below_more c.args.position.now c.args.diagram.now c.args.last.now c.sources-sources.result c.loop-from.at c.in-Some.from c.index-at.result c.leads_from.result c.sources-sources.ensures c.loop-from.invariant.none c.in-Some.ensures c.leads_from.ensures c.if-leads_from.false c.index-at.ensures.value;
}

pub returns : goal.returns
returns c = none_below_end c.args.position.now c.args.diagram.now c.args.last.now c.sources-sources.result c.loop-from.at c.sources-sources.ensures c.loop-from.invariant.none c.in_default.ensures
