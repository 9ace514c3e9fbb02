use Rattle.pg_moves.proofs.MenLemmas.{of_kind}
use Rattle.pg_moves.proofs.men.is_of_kind.Goals as goal

pub returns : goal.returns
returns c = λ t. of_kind c.args.position.now c.board-board.result c.new.result c.new-2.result c.args.kind c.args.from c.squares_of-white.result c.squares_of-black.result c.bitor.result c.board-board.ensures.value c.new.ensures c.new-2.ensures c.contains.ensures.bound c.requires
    c.squares_of-white.ensures c.squares_of-black.ensures c.bitor.ensures.members (rw c.contains.ensures.value at t)
