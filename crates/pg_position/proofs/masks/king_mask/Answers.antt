use Rattle.pg_position.proofs.TableLemmas.{kings_from}
use Rattle.pg_position.proofs.masks.king_mask.Goals as goal

pub returns : goal.returns
returns c = λ d. rw c.of_bits.ensures (kings_from d _ _ c.index.ensures.value c.index.ensures.bound)
