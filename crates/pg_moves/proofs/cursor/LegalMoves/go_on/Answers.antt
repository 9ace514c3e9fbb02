use Rattle.pg_moves.proofs.RestLemmas.{ready_on}
use Rattle.pg_moves.proofs.cursor.LegalMoves.go_on.Goals as goal

pub invariant_of-self : goal.invariant_of-self
invariant_of-self c = (c.self.invariant.0, ready_on c.args.self.now c.self.inside.position c.self.inside.turn.last c.args.m.now c.self.inside.men c.self.inside.turn c.past-self-inside.result c.self.view_is c.self.invariant.1 c.requires c.past-self-inside.ensures)
