use Rattle.pg_position.proofs.TableLemmas.{white_pawns_from, black_pawns_from}
use Rattle.pg_position.proofs.masks.pawn_mask.Goals as goal

pub returns-in-White : goal.returns-in-White
returns-in-White c = rw c.of_bits.ensures (white_pawns_from _ _ _ c.in-White.is c.index.ensures.value c.index.ensures.bound)

pub returns-in-Black : goal.returns-in-Black
returns-in-Black c = rw c.of_bits-in-Black.ensures (black_pawns_from _ _ _ c.in-Black.is c.index-in-Black.ensures.value c.index-in-Black.ensures.bound)
