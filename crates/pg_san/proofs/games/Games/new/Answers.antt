use Rattle.pg_san.proofs.OrderLemmas.{no_games}
use Rattle.pg_san.proofs.games.Games.new.Goals as goal

pub invariant_of-result : goal.invariant_of-result
invariant_of-result c = rw c.new.ensures.items no_games
