use Rattle.pg_cooks.proofs.CookLemmas.{unlisted}
use Rattle.pg_cooks.proofs.laws.unlisted_is_a_cook.Goals as goal

pub returns : goal.returns
returns c = unlisted
