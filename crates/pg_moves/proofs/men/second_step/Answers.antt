use Rattle.pg_moves.proofs.StepLemmas.{double_set}
use Rattle.pg_moves.proofs.men.second_step.Goals as goal

pub returns : goal.returns
returns c = double_set c.args.board.now c.args.color c.args.from c.args.once c.one_ahead.result c.leap_squares.result c.bitand-twice.result c.occupied.result c.sub.result c.index.ensures.bound c.requires c.one_ahead.ensures c.leap_squares.ensures c.bitand-twice.ensures.members c.occupied.ensures c.sub.ensures.members
