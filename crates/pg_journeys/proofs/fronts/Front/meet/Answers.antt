use Rattle.pg_journeys.proofs.Common.{refl, arith}
use Rattle.pg_journeys.proofs.FrontLemmas.{meets_now}
use Rattle.pg_journeys.proofs.fronts.Front.meet.Goals as goal

pub returns-else-counts : goal.returns-else-counts
returns-else-counts c = meets_now c.args.kind c.from.result c.args.set c.sub-new.result c.index-self-from.result c.args.counts c.args.self.now (record { met = c.join-else-counts.new.sets; due = c.join-else-counts-2.new.sets; next = c.args.self.now.next }) c.if-counts.false refl (omega arith) (omega arith) c.sub-new.ensures.members c.join-else-counts.ensures c.join-else-counts-2.ensures
