use Rattle.pg_moves.proofs.Common.{sym, subst, MovesLeft, IsPeeked, FreeOff}
use Rattle.pg_moves.proofs.TurnLemmas.{ready_kept, ready_passed}
use Rattle.pg_moves.proofs.cursor.LegalMoves.go_to.Goals as goal

pub invariant_of-self : goal.invariant_of-self
unfolding IsPeeked
invariant_of-self c = (
  subst (λ (v : MovesLeft). FreeOff v.position c.args.peeked.now.maybe_pinned) (sym c.self.view_is) c.requires.0,
  ready_passed c.self.inside.position c.self.inside.men c.pass.new.turn c.args.peeked.now.m
      (ready_kept c.self.inside.position c.self.inside.turn.last c.self.inside.men c.self.inside.turn c.self.invariant.1) c.pass.ensures.last c.pass.ensures.turn,
)
