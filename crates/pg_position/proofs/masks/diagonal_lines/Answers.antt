use Rattle.pg_position.proofs.TableLemmas.{diagonal_from}
use Rattle.pg_position.proofs.masks.diagonal_lines.Goals as goal

pub returns : goal.returns
returns c = rw c.of_bits.ensures (diagonal_from _ _ c.index.ensures.value c.index.ensures.bound)
