use Rattle.pg_tolls.proofs.Common.{Some, None, refl, ap, ◌∙◌, lesser_of}
use Rattle.pg_tolls.proofs.Unlifted.{lesser_is}
use Rattle.pg_tolls.proofs.values.lesser.Goals as goal

pub returns-in-None-default : goal.returns-in-None-default
unfolding lesser_of
returns-in-None-default c = lesser_is c.args.a c.args.b None c.args.b c.in-None-default.is-0 refl

pub returns-in-Some-None : goal.returns-in-Some-None
unfolding lesser_of
returns-in-Some-None c = c.in-Some-None.is-0 ∙ lesser_is c.args.a c.args.b (Some c.in-Some-None.field-0-0) None c.in-Some-None.is-0 c.in-Some-None.is-1

pub returns-in-Some-Some : goal.returns-in-Some-Some
unfolding lesser_of
returns-in-Some-Some c = ap Some c.min.ensures ∙ lesser_is c.args.a c.args.b (Some c.in-Some-Some.x) (Some c.in-Some-Some.y) c.in-Some-Some.is-0 c.in-Some-Some.is-1
