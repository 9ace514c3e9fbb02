use Rattle.pg_moves.proofs.MenLemmas.{piece_exact}
use Rattle.pg_moves.proofs.men.piece_set.Goals as goal

pub returns : goal.returns
returns c = piece_exact c.args.position.now c.args.men.now c.board.result c.side.result c.args.kind c.args.from c.attacks_from.result c.bitand.result c.requires.men c.board.ensures.value c.side.ensures.value c.index.ensures.bound c.requires.stands c.requires.free c.requires.pawn
    (rw c.new.ensures at c.attacks_from.ensures) c.bitand.ensures.members
