use Rattle.pg_board.proofs.SetLemmas.{set_one}
use Rattle.pg_board.proofs.square_set.SquareSet.single.Goals as goal

pub returns : goal.returns
returns c = rw c.index.ensures.value (set_one c.args.square c.index.ensures.bound)
