use Rattle.pg_moves.proofs.TurnLemmas.{ready_after, ready_kept, ready_to_come, handed_beyond}
use Rattle.pg_moves.proofs.cursor.LegalMoves.next_beyond.Goals as goal

pub keep_men-requires : goal.keep_men-requires
keep_men-requires c = ready_kept c.self.inside.position c.self.inside.turn.last c.self.inside.men c.self.inside.turn c.self.invariant.1

pub begin_next-requires-clause-to_come : goal.begin_next-requires-clause-to_come
begin_next-requires-clause-to_come c = ready_to_come c.self.inside.position c.self.inside.turn.last c.self.inside.men c.self.inside.turn c.self.invariant.1

pub invariant_of-self : goal.invariant_of-self
invariant_of-self c = (c.self.invariant.0, ready_after c.self.inside.position c.self.inside.men c.keep_men.new.men c.self.inside.turn c.begin_next.new.turn c.begin_next.result c.keep_men.ensures c.self.invariant.1 c.begin_next.ensures)

pub returns : goal.returns
returns c = handed_beyond c.args.self.now c.self.inside.position c.self.inside.turn c.begin_next.new.turn c.begin_next.result c.self.view_is c.requires c.begin_next.ensures
