use Rattle.pg_moves.proofs.LeafLemmas.{advances_at}
use Rattle.pg_moves.proofs.ExactLemmas.{parry_exact}
use Rattle.pg_moves.proofs.parries.parrying.Goals as goal

pub returns : goal.returns
returns c = parry_exact c.args.position.now c.args.kind c.args.from c.advances.result c.parries.result c.bitand.result c.index.ensures.bound c.requires.stands c.requires.king c.requires.ordinary
    (advances_at c.args.position.now c.args.kind c.args.from c.advances.result c.board-board.result c.side.result c.board-board.ensures.value c.side.ensures.value c.advances.ensures)
    c.bitand.ensures.members c.parries.ensures.vain c.parries.ensures.safe
