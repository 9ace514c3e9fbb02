use Rattle.pg_journeys.proofs.Common.{known}
use Rattle.pg_journeys.proofs.BackLemmas.{pawns_back, no_pawns_back}
use Rattle.pg_journeys.proofs.fronts.meet_pawns_before.Goals as goal

pub returns-then-not-is_empty : goal.returns-then-not-is_empty
returns-then-not-is_empty c = pawns_back (known c.args.ground.now.facts) c.args.ground.now.color c.args.is_quiet c.args.kind c.args.set c.becoming-to.result c.becoming-to.ensures c.pushed_to.result c.captured_to.result c.args.front.now c.meet.new.self c.meet-then-not-is_empty.new.self c.pushed_to.ensures c.captured_to.ensures c.meet.ensures c.meet-then-not-is_empty.ensures

pub returns-else-not-is_empty : goal.returns-else-not-is_empty
returns-else-not-is_empty c = no_pawns_back (known c.args.ground.now.facts) c.args.ground.now.color c.args.is_quiet c.args.kind c.args.set c.becoming-to.result c.becoming-to.ensures c.args.front.now (c.is_empty.ensures.none.0 c.if-not-is_empty.false)
