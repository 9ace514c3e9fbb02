use Rattle.pg_moves.proofs.Common.{subst, MovesLeft, FreeOff}
use Rattle.pg_moves.proofs.TurnLemmas.{peeked_same}
use Rattle.pg_moves.proofs.cursor.LegalMoves.peek.Goals as goal

pub returns-in-Some : goal.returns-in-Some
returns-in-Some c = peeked_same c.args.self.now c.self.inside.position c.self.inside.turn.last c.in-Some.m c.self.inside.men c.self.inside.turn c.self.inside.maybe_pinned c.self.view_is c.self.invariant.1 c.in-Some.ensures
    (subst (λ (v : MovesLeft). FreeOff v.position c.self.inside.maybe_pinned) c.self.view_is c.self.invariant.0)
