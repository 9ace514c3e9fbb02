use Rattle.pg_position.proofs.TableLemmas.{rays_from}
use Rattle.pg_position.proofs.masks.ray.Goals as goal

pub returns : goal.returns
returns c = rw c.of_bits.ensures (rays_from _ _ _ _ c.place.ensures c.index.ensures.value c.index.ensures.bound)
