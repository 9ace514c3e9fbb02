use Rattle.pg_position.proofs.Common.{subst, sym, Color, HasAhead}
use Rattle.pg_position.proofs.StepLemmas.{taken_on_board}
use Rattle.pg_position.proofs.state.State.board_after.Goals as goal

pub ahead-requires : goal.ahead-requires
ahead-requires c = subst (λ (x : Color). HasAhead x 1 c.args.m.now.to) (sym c.other.ensures) (taken_on_board _ _ _ _ c.requires.position c.requires.way c.in-EnPassant.is)
