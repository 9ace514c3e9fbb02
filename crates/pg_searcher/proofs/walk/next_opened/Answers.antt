use Rattle.std.proofs.Common.{subst, IfSome}
use Rattle.pg_position.specs.Step.{IsLegal}
use Rattle.pg_searcher.proofs.walk.next_opened.Goals as goal

pub child-requires : goal.child-requires
child-requires g c = record { legal = rw (← c.loop.invariant) (subst (λ uncut. IfSome uncut (λ u. IsLegal c.loop.top.moves.position u.m)) c.in-Ok-Some.field-0-is c.in-Ok-Some.ensures.legal) }
