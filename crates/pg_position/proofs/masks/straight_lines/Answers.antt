use Rattle.pg_position.proofs.TableLemmas.{straight_from}
use Rattle.pg_position.proofs.masks.straight_lines.Goals as goal

pub returns : goal.returns
returns c = rw c.of_bits.ensures (straight_from _ _ c.index.ensures.value c.index.ensures.bound)
