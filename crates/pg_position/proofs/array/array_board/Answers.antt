use Rattle.pg_position.proofs.ArraySets.{array_sound, array_of_sets}
use Rattle.pg_position.proofs.array.array_board.Goals as goal

pub of_sets-requires : goal.of_sets-requires
of_sets-requires c = array_sound

pub returns : goal.returns
returns c = array_of_sets c.of_sets.result c.of_sets.ensures
