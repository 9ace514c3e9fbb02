use Rattle.pg_tolls.proofs.memory.same_men.Goals as goal
use Rattle.pg_tolls.proofs.Common.{same_own_men}

pub returns : goal.returns
returns c = λ t. same_own_men c.args.one.now c.args.another.now c.board-here.result c.board-there.result c.args.color c.squares_of_color.result c.squares_of_color-2.result c.bitor-own.result c.differing.result c.meets.result c.board-here.ensures c.board-there.ensures c.squares_of_color.ensures c.squares_of_color-2.ensures c.bitor-own.ensures.members c.differing.ensures c.meets.ensures t
