use Rattle.pg_fen.proofs.CountLemmas.{counted_king}
use Rattle.pg_fen.proofs.laws.one_king_counted.Goals as goal

pub returns : goal.returns
returns c = counted_king
