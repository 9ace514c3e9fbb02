use Rattle.pg_board.proofs.Common.{get-placement_of, man_in}
use Rattle.pg_board.proofs.board.Board.of_sets.Goals as goal

pub returns : goal.returns
returns c = λ q l. get-placement_of (man_in c.args.sets) q l
