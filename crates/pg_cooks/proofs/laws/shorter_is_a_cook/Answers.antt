use Rattle.pg_cooks.proofs.CookLemmas.{shorter}
use Rattle.pg_cooks.proofs.laws.shorter_is_a_cook.Goals as goal

pub returns : goal.returns
returns c = shorter
