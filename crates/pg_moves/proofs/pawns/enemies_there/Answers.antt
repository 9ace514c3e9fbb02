use Rattle.pg_moves.proofs.ShiftLemmas.{enemies_among}
use Rattle.pg_moves.proofs.pawns.enemies_there.Goals as goal

pub returns : goal.returns
returns c = enemies_among c.args.board.now c.args.color c.other.result c.squares_of_color.result c.args.goals c.bitand.result c.other.ensures c.squares_of_color.ensures c.bitand.ensures.members
