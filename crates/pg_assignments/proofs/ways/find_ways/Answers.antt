use Rattle.pg_assignments.proofs.Common.{◌+◌, refl}
use Rattle.pg_assignments.proofs.WayLemmas.{ways_next}
use Rattle.pg_assignments.proofs.ways.find_ways.Goals as goal

pub loop-m-preserved : goal.loop-m-preserved
loop-m-preserved c = ways_next c.args.slacks.now c.args.owner.now c.args.size c.loop-m.m (c.loop-m.m + 1) c.loop-m.keys c.go_by.new.keys refl c.loop-m-test.true c.requires.size c.go_by.ensures c.loop-m.invariant
