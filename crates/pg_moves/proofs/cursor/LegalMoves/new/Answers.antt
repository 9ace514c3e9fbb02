use Rattle.pg_moves.proofs.LeafLemmas.{free_none_off}
use Rattle.pg_moves.proofs.TurnLemmas.{ready_new}
use Rattle.pg_moves.proofs.cursor.LegalMoves.new.Goals as goal

pub invariant_of-result : goal.invariant_of-result
invariant_of-result c = (free_none_off c.args.position.now c.full.result c.full.ensures, ready_new c.args.position.now c.no_men.result c.no_turn.result c.own_men.result c.no_men.ensures c.no_turn.ensures.last c.no_turn.ensures.left c.own_men.ensures)
