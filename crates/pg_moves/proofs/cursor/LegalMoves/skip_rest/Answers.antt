use Rattle.pg_moves.proofs.RestLemmas.{ready_skipped}
use Rattle.pg_moves.proofs.cursor.LegalMoves.skip_rest.Goals as goal

pub invariant_of-self : goal.invariant_of-self
invariant_of-self c = (c.self.invariant.0, ready_skipped c.args.self.now c.self.inside.position c.self.inside.turn.last c.in-Some.last c.args.rest c.in-Some-last.to c.empty-self-inside.result c.self.inside.men c.self.inside.turn c.self.view_is c.in-Some.is c.self.invariant.1 c.requires c.in-Some-last.ensures c.empty-self-inside.ensures.value)
