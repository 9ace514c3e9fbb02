use Rattle.pg_position.proofs.CastlingLemmas.{homes_at}
use Rattle.pg_position.proofs.squares.castling_homes.Goals as goal

pub returns : goal.returns
returns c = rw c.of_bits.ensures homes_at
