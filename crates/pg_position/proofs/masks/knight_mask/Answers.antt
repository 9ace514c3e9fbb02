use Rattle.pg_position.proofs.TableLemmas.{knights_from}
use Rattle.pg_position.proofs.masks.knight_mask.Goals as goal

pub returns : goal.returns
returns c = λ d. rw c.of_bits.ensures (knights_from d _ _ c.index.ensures.value c.index.ensures.bound)
