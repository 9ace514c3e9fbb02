use Rattle.pg_moves.proofs.Common.{IsHandedOut}
use Rattle.pg_moves.proofs.TurnLemmas.{kept_next, kept_some, kept_none}
use Rattle.pg_moves.proofs.cursor.LegalMoves.next_kept.Goals as goal

pub returns-then-not-next_beyond-clause-answer : goal.returns-then-not-next_beyond-clause-answer
unfolding IsHandedOut
returns-then-not-next_beyond-clause-answer c = c.if-not-next_beyond.ensures.0

pub returns-then-not-next_beyond-clause-none : goal.returns-then-not-next_beyond-clause-none
unfolding IsHandedOut
returns-then-not-next_beyond-clause-none c = c.if-not-next_beyond.ensures.1

pub returns-clause-answer : goal.returns-clause-answer
returns-clause-answer c = kept_next c.args.self.now c.next_beyond.new.self c.self.inside.position c.self.inside.turn.last c.self.view_is c.if-not-next_beyond.ensures

pub returns-clause-some : goal.returns-clause-some
returns-clause-some c = kept_some c.args.self.now c.next_beyond.new.self c.self.inside.position c.self.inside.turn.last c.self.view_is c.if-not-next_beyond.ensures

pub returns-clause-none : goal.returns-clause-none
returns-clause-none c = kept_none c.args.self.now c.next_beyond.new.self c.self.inside.position c.self.inside.turn.last c.self.view_is c.if-not-next_beyond.ensures
