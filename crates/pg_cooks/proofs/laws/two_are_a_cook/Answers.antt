use Rattle.pg_cooks.proofs.CookLemmas.{two_cook}
use Rattle.pg_cooks.proofs.laws.two_are_a_cook.Goals as goal

pub returns : goal.returns
returns c = two_cook
