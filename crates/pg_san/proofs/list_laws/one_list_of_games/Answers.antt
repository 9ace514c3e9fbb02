use Rattle.pg_san.proofs.OrderLemmas.{same_games}
use Rattle.pg_san.proofs.list_laws.one_list_of_games.Goals as goal

pub returns : goal.returns
returns c = same_games
