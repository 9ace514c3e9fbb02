use Rattle.pg_moves.proofs.Common.{refl}
use Rattle.pg_moves.proofs.LeftLemmas.{ahead_of}
use Rattle.pg_moves.proofs.MenLemmas.{kept_there}
use Rattle.pg_moves.proofs.TurnLemmas.{ready_kept, ready_to_come}
use Rattle.pg_moves.proofs.cursor.LegalMoves.peek_beyond.Goals as goal

pub peek_known-requires-clause-men : goal.peek_known-requires-clause-men
peek_known-requires-clause-men c = kept_there c.self.inside.position c.self.inside.men (ready_kept c.self.inside.position c.self.inside.turn.last c.self.inside.men c.self.inside.turn c.self.invariant.1) (c.are_known.ensures c.if-are_known.true)

pub peek_known-requires-clause-to_come : goal.peek_known-requires-clause-to_come
peek_known-requires-clause-to_come c = ready_to_come c.self.inside.position c.self.inside.turn.last c.self.inside.men c.self.inside.turn c.self.invariant.1

pub peek_each-requires-clause-to_come : goal.peek_each-requires-clause-to_come
peek_each-requires-clause-to_come c = rw c.new.ensures (ready_to_come c.self.inside.position c.self.inside.turn.last c.self.inside.men c.self.inside.turn c.self.invariant.1)

pub returns-then-are_known : goal.returns-then-are_known
returns-then-are_known c = ahead_of c.args.self.now c.self.inside.position c.self.inside.turn.last c.self.inside.turn.last c.peek_known.result c.self.view_is refl c.peek_known.ensures

pub returns-else-are_known : goal.returns-else-are_known
returns-else-are_known c = ahead_of c.args.self.now c.self.inside.position c.self.inside.turn.last c.self.inside.turn.last c.peek_each.result c.self.view_is refl (rw c.new.ensures at c.peek_each.ensures)
