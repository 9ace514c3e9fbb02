use Rattle.pg_board.proofs.MovedSets.{all_but_two}
use Rattle.pg_board.proofs.sets.all_but.Goals as goal

pub returns : goal.returns
returns c = all_but_two c.adjusted.result c.adjusted-2.result c.args.from c.args.to c.adjusted.ensures.bits c.adjusted-2.ensures.bits
