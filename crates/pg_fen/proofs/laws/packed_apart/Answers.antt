use Rattle.pg_fen.proofs.PackingLemmas.{packed_apart}
use Rattle.pg_fen.proofs.laws.packed_apart.Goals as goal

pub returns : goal.returns
returns c = packed_apart
