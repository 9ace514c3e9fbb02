use Rattle.pg_journeys.proofs.MemoryLemmas.{same_own_men}
use Rattle.pg_journeys.proofs.memory.same_own.Goals as goal

pub returns : goal.returns
returns c = λ t. same_own_men c.args.one.now.position.board c.args.another.now.position.board c.board-here.result c.board-there.result c.args.one.now.color c.squares_of_color.result c.squares_of_color-2.result c.bitor-own.result c.differing.result c.meets.result c.board-here.ensures.value c.board-there.ensures.value c.squares_of_color.ensures c.squares_of_color-2.ensures c.bitor-own.ensures.members c.differing.ensures c.meets.ensures t
