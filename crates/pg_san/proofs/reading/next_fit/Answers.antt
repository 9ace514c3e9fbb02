use Rattle.pg_san.proofs.Common.{ap, ◌+◌}
use Rattle.pg_san.proofs.WalkLemmas.{walk_start, walk_on, walk_found, walk_end}
use Rattle.pg_san.proofs.reading.next_fit.Goals as goal

pub loop-from-init : goal.loop-from-init
loop-from-init c = walk_start c.args.position.now c.args.said.now c.args.start

pub returns-in-Some-fit_from : goal.returns-in-Some-fit_from
returns-in-Some-fit_from c = walk_found c.args.position.now c.args.said.now c.args.sources c.args.start c.loop-from.at c.in-Some.from c.in-Some-fit_from.found c.requires c.loop-from.invariant c.in-Some.ensures c.in-Some-fit_from.ensures

pub loop-from-preserved : goal.loop-from-preserved
loop-from-preserved c = walk_on c.args.position.now c.args.said.now c.args.sources c.args.start c.loop-from.at c.in-Some.from (c.index-at.result + 1) c.requires c.loop-from.invariant c.in-Some.ensures c.in_default-fit_from.ensures (ap (λ x. x + 1) c.index-at.ensures.value)

pub returns : goal.returns
returns c = walk_end c.args.position.now c.args.said.now c.args.sources c.args.start c.loop-from.at c.requires c.loop-from.invariant c.in_default.ensures
