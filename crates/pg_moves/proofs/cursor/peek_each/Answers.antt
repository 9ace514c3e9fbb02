use Rattle.pg_moves.proofs.TurnLemmas.{peeked_over, peeked_not, peeked_next}
use Rattle.pg_moves.proofs.cursor.peek_each.Goals as goal

pub returns-then-not-begin_each : goal.returns-then-not-begin_each
returns-then-not-begin_each c = peeked_over c.args.pins.now c.args.old.now c.begin_each.new.turn c.requires.done c.if-not-begin_each.ensures

pub unreachable-requires : goal.unreachable-requires
unreachable-requires c = peeked_not c.args.pins.now c.args.old.now c.begin_each.new.turn c.if-not-begin_each.ensures c.in-None.is

pub returns : goal.returns
returns c = peeked_next c.args.pins.now c.args.old.now c.begin_each.new.turn c.in-Some.m c.maybe_pinned.result c.requires.done c.if-not-begin_each.ensures c.in-Some.is c.maybe_pinned.ensures
