use Rattle.pg_san.proofs.OrderLemmas.{games_once}
use Rattle.pg_san.proofs.list_laws.games_stand_once.Goals as goal

pub returns : goal.returns
returns c = games_once
