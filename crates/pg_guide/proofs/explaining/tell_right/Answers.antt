use Rattle.pg_guide.proofs.WhyLemmas.{right_last}
use Rattle.pg_guide.proofs.explaining.tell_right.Goals as goal

pub returns-in-Ok-push-clause-told : goal.returns-in-Ok-push-clause-told
returns-in-Ok-push-clause-told g c = right_last _ _ _ c.in-Ok.ensures.grows c.in-Ok-push.ensures.bytes
