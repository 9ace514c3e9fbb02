use Rattle.pg_san.proofs.Common.{refl, inr}
use Rattle.pg_san.proofs.writing.sign_after.Goals as goal

pub returns-in-None : goal.returns-in-None
returns-in-None c = inr (inr (c.in_check.ensures.0 c.if-not-in_check.false, (λ h. c.in-None.ensures h.0 h.1 tt), refl))
