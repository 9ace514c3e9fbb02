use Rattle.pg_moves.proofs.QuietLemmas.{en_passant_back, none_passed}
use Rattle.pg_moves.proofs.pawns.en_passant_sources.Goals as goal

pub returns-in-Some : goal.returns-in-Some
returns-in-Some c = en_passant_back c.args.position.now c.board.result c.side.result c.other.result c.in-Some.square c.attacks_from.result c.passed.result c.side.ensures.value c.other.ensures c.in-Some.is c.passed.ensures (rw c.new-pawn.ensures at c.attacks_from.ensures)

pub returns-in-None : goal.returns-in-None
returns-in-None c = rw c.empty.ensures.value (none_passed c.args.position.now c.passed.result c.in-None.is c.passed.ensures)
