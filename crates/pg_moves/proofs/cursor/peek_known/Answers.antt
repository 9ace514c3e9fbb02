use Rattle.pg_moves.proofs.TurnLemmas.{peeked_over, peeked_not, peeked_next}
use Rattle.pg_moves.proofs.LeafLemmas.{free_none_off}
use Rattle.pg_moves.proofs.cursor.peek_known.Goals as goal

pub returns-then-not-begin_next : goal.returns-then-not-begin_next
returns-then-not-begin_next c = peeked_over c.args.position.now c.args.old.now c.begin_next.new.turn c.requires.done c.if-not-begin_next.ensures

pub unreachable-requires : goal.unreachable-requires
unreachable-requires c = peeked_not c.args.position.now c.args.old.now c.begin_next.new.turn c.if-not-begin_next.ensures c.in-None.is

pub returns : goal.returns
returns c = peeked_next c.args.position.now c.args.old.now c.begin_next.new.turn c.in-Some.m c.full.result c.requires.done c.if-not-begin_next.ensures c.in-Some.is (free_none_off c.args.position.now c.full.result c.full.ensures)
