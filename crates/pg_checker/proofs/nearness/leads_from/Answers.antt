use Rattle.pg_checker.proofs.Common.{arith}
use Rattle.pg_checker.proofs.Leading.{none_to_more, none_to_end}
use Rattle.pg_checker.proofs.nearness.leads_from.Goals as goal

pub loop-to-preserved : goal.loop-to-preserved
loop-to-preserved c = record {
  within = omega arith;
  none = none_to_more c.args.position.now c.args.diagram.now c.args.last.now c.args.targets c.args.from c.loop-to.at c.in-Some.to c.index-at.result c.leads_between.result c.requires.targets c.loop-to.invariant.none c.in-Some.ensures c.leads_between.ensures c.if-leads_between.false c.index-at.ensures.value;
}

pub returns : goal.returns
returns c = none_to_end c.args.position.now c.args.diagram.now c.args.last.now c.args.targets c.args.from c.loop-to.at c.requires.targets c.loop-to.invariant.none c.in_default.ensures
