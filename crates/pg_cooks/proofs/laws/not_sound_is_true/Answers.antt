use Rattle.pg_cooks.proofs.CookLemmas.{not_sound}
use Rattle.pg_cooks.proofs.laws.not_sound_is_true.Goals as goal

pub returns : goal.returns
returns c = not_sound
