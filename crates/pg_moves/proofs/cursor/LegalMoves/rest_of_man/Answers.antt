use Rattle.pg_moves.proofs.RestLemmas.{rest_at, tried_at, tried_none}
use Rattle.pg_moves.proofs.cursor.LegalMoves.rest_of_man.Goals as goal

pub returns-in-None-clause-none : goal.returns-in-None-clause-none
returns-in-None-clause-none c = tried_none c.args.self.now c.self.inside.position c.self.inside.turn.last c.self.view_is c.in-None.is

pub returns-then-self-clause-some : goal.returns-then-self-clause-some
returns-then-self-clause-some c = rest_at c.args.self.now c.self.inside.position c.self.inside.turn.last c.in-Some.last c.self.inside.men c.self.inside.turn c.self.view_is c.in-Some.is c.self.invariant.1 c.if-self.true

pub returns-else-self-clause-none : goal.returns-else-self-clause-none
returns-else-self-clause-none c = tried_at c.args.self.now c.self.inside.position c.self.inside.turn.last c.in-Some.last c.self.inside.men c.self.inside.turn c.self.view_is c.in-Some.is c.self.invariant.1 c.if-self.false
