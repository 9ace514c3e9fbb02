use Rattle.pg_san.proofs.Common.{refl, array_state, IsFromArray}
use Rattle.pg_san.proofs.games.Games.last.Goals as goal

pub returns-in-None : goal.returns-in-None
unfolding IsFromArray
returns-in-None c = (array_state, refl)
