use Rattle.pg_moves.proofs.MenLemmas.{pawn_exact}
use Rattle.pg_moves.proofs.men.pawn_set.Goals as goal

pub returns-clause-exact : goal.returns-clause-exact
returns-clause-exact c = pawn_exact c.args.position.now c.args.men.now c.board.result c.side.result c.args.from c.pawn_advances.result c.bitand.result c.requires.men c.board.ensures.value c.side.ensures.value c.index.ensures.bound c.requires.quiet
    c.pawn_advances.ensures c.bitand.ensures.members
