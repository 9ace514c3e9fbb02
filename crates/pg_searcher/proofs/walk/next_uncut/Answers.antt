use Rattle.pg_searcher.proofs.walk.next_uncut.Goals as goal

pub returns-in-Stays-clause-legal : goal.returns-in-Stays-clause-legal
returns-in-Stays-clause-legal g c = rw (← c.position-position.ensures) (rw (← c.loop.invariant) c.in-Some.ensures.answer.legal)

pub returns-in-No-clause-legal : goal.returns-in-No-clause-legal
returns-in-No-clause-legal g c = rw (← c.position-position.ensures) (rw (← c.loop.invariant) c.in-Some.ensures.answer.legal)
